-- The parts of the output have each one number.
use Rattle.std.proofs.Common.{◌≡◌, ◌∙◌, ℕ, ◌<◌, zero-add, map, get_or, slice_get, Some, option_map, sym, ap}
use Rattle.std.proofs.lemmas.List.FromFn.{get_or-range_with_len}
use Rattle.std.proofs.lemmas.Option.{slice_get_within, slice_get-map, get_or_from_slice_get}
use Rattle.wl_sections.specs.OutputSections.{part_order}
use Rattle.wl_sections.specs.declared.output_section.OutputSection.{OutputSection}
use Rattle.wl_sections.specs.declared.output_section.OutputSection.TheVariants as section

-- the number of a part; the header of the file gets one that no part has
abbrev number : OutputSection → ℕ
number section.Type = 0
number section.Import = 1
number section.Function = 2
number section.Table = 3
number section.Memory = 4
number section.Global = 5
number section.Export = 6
number section.Start = 7
number section.Element = 8
number section.DataCount = 9
number section.Code = 10
number section.Data = 11
number section.Name = 12
number section.TargetFeatures = 13
number section.Debug = 14
number section.FileHeader = 15

-- a part stands at its number
number_at : (n : ℕ) (s : OutputSection) → slice_get part_order n ≡ Some s → number s ≡ n
number_at n s at =
    let there : slice_get (map number part_order) n ≡ Some (number s) =
    slice_get-map number part_order n ∙ ap (option_map number) at in
    let is : get_or (map number part_order) n 0 ≡ number s =
    get_or_from_slice_get (map number part_order) n (number s) 0 there in
    let inside : n < 15 = slice_get_within part_order n s at in
    sym is ∙ get_or-range_with_len 0 15 n 0 inside ∙ zero-add n

pub parts_once : (m n : ℕ) (s : OutputSection)
    → slice_get part_order m ≡ Some s → slice_get part_order n ≡ Some s → m ≡ n
parts_once m n s a b = sym (number_at m s a) ∙ number_at n s b
