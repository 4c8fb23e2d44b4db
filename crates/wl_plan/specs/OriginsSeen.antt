-- Origins of functions as clauses see them.
use Rattle.wl_plan.specs.Origins.{Origin, OfObject, OfLinker, OfInitMemory, OfStub, OfWrapper}
use Rattle.wl_plan.specs.declared.layout.FunctionOrigin.{FunctionOrigin}
use Rattle.wl_plan.specs.declared.layout.FunctionOrigin.TheVariants.{Object, Made, InitMemory, Stub, Wrap}

-- the same, with its name as a list
abbrev pub origin_seen : FunctionOrigin → Origin
origin_seen (Object object unit) = OfObject object unit
origin_seen (Made m) = OfLinker m
origin_seen InitMemory = OfInitMemory
origin_seen (Stub name) = OfStub name.now
origin_seen (Wrap name) = OfWrapper name.now
