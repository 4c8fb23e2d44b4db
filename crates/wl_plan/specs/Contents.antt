-- The bytes of objects.
use Rattle.std.specs.Prelude.{◌≡◌, ◌≤◌, ◌<◌, ℕ, List, map, length, Vec}
use Rattle.std.specs.declared.alloc.Global.{Global}
use Rattle.std.specs.List.{AllByRecursion}
use Rattle.wl_plan.specs.declared.objects.PushError.{PushError}
use Rattle.wl_plan.specs.declared.objects.PushError.TheVariants.{OutOfMemory, TooLong}
use Rattle.wl_plan.specs.declared.objects.TheConstants.{MAX_OBJECT}

-- the bytes in each vector
abbrev pub contents : List (Vec ℕ Global) → List (List ℕ)
contents objects = map (λ (object : Vec ℕ Global). object.items) objects

-- none has more than 1 GiB
abbrev pub AllWithin : List (List ℕ) → Type 0
AllWithin objects = AllByRecursion (λ (bytes : List ℕ). length bytes ≤ MAX_OBJECT) objects

-- an object that wasn't taken is handed back, and where it is known to be too long it is
abbrev pub HandsBack : List ℕ → PushError → Type 0
HandsBack bytes (OutOfMemory back) = back.items ≡ bytes
HandsBack bytes (TooLong back) = (back.items ≡ bytes) × (MAX_OBJECT < length bytes)
