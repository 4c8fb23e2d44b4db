mod FaultLaws
mod PointerLaws
mod RefusalLaws
