pub mod AscendingLaws
pub mod TakenLaws
pub mod DisallowingLaws
pub mod SharedLaws
pub mod PrefixLaws
pub mod FaultLaws
pub mod NameLaws
