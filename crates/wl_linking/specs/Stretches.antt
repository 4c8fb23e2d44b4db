-- Names, expressions, bodies and the bytes of segments are stretches of the object's bytes.
use Rattle.std.specs.Prelude.{ℕ, List}
use Rattle.std.specs.List.{AllByRecursion}
use Rattle.wl_module.specs.Places.{IsPart, ImportStands, ExportStands, GlobalStands}
use Rattle.wl_module.specs.Bodies.{Body}
use Rattle.wl_module.specs.Segments.{Segment}
use Rattle.wl_custom.specs.Infos.{SegmentInfo}
use Rattle.wl_custom.specs.Features.{Feature}
use Rattle.wl_linking.specs.Object.{Object}

-- the bytes of a body stand there
abbrev pub BodyIsPart : List ℕ → Body → Type 0
BodyIsPart bytes b = IsPart bytes b.bytes

-- those of a segment do
abbrev pub PayloadIsPart : List ℕ → Segment → Type 0
PayloadIsPart bytes s = IsPart bytes s.payload

-- the name that is given for a segment does
abbrev pub InfoStands : List ℕ → SegmentInfo → Type 0
InfoStands bytes i = IsPart bytes i.name

-- the name of a feature does
abbrev pub FeatureStands : List ℕ → Feature → Type 0
FeatureStands bytes f = IsPart bytes f.name

-- all that an object has of its bytes, beside the names of symbols, which give their places
pub record PartsStandIn (bytes : List ℕ) (o : Object) : Type 0 where
  pub imports : AllByRecursion (ImportStands bytes) o.imports
  pub globals : AllByRecursion (GlobalStands bytes) o.globals
  pub exports : AllByRecursion (ExportStands bytes) o.exports
  pub bodies : AllByRecursion (BodyIsPart bytes) o.bodies
  pub segments : AllByRecursion (PayloadIsPart bytes) o.segments
  pub segment_infos : AllByRecursion (InfoStands bytes) o.segment_infos
  pub features : AllByRecursion (FeatureStands bytes) o.features
