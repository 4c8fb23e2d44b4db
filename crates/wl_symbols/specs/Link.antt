-- What is linked: the objects, in the order given, and what the words ask for.
use Rattle.std.specs.Prelude.{List}
use Rattle.wl_linking.specs.Object.{Object}
use Rattle.wl_words.specs.declared.args.WasmArgs.{WasmArgs}

pub record Link : Type 0 where
  pub objects : List Object
  pub args : WasmArgs

-- these objects under these words
abbrev pub link_of : List Object → WasmArgs → Link
link_of objects args = record { objects = objects; args = args }
