-- What others see of the output.
use Rattle.wl_symbols.specs.Input.{Input}
use Rattle.wl_exports.specs.Wrapped.{AreOutputExports, AreWrappers}
use Rattle.wl_exports.specs.declared.interface.OutputInterface.{OutputInterface}

-- the exports of the output, and the wrappers that some of them lead to
pub record IsInterface (input : Input) (i : OutputInterface) : Type 0 where
  pub exports : AreOutputExports input i.exports
  pub wrappers : AreWrappers input i.wrappers
