use Rattle.std.proofs.Common.{◌≡◌, ◌∙◌, ◌<◌, ℕ, List, ◌++◌, map, ap, refl, sym, subst, length}
use Rattle.std.specs.List.{AllZip}
use Rattle.std.proofs.lemmas.Option.{slice_get_within}
use Rattle.wl_linking.specs.Object.{Object}
use Rattle.wl_custom.specs.declared.symbols.WasmSymbolKind.{WasmSymbolKind}
use Rattle.wl_symbols.specs.ImportSlots.{ImportSlot, object_slots, import_slots}
use Rattle.wl_bind.specs.steps.Numbered.{AreObjectIndices, FitsOwn, HaveSlotIndices, IsSlotIndex, firsts_of, own_indices_of, resolution_of}
use Rattle.wl_bind.specs.steps.OwnIndices.{own_count, own_kind, own_unit}
use Rattle.wl_lists.proofs.Rows.{object_here}
use Rattle.wl_bind.proofs.NumberingLaws.{row_there, firsts_fit, row_few, same_object}
use Rattle.wl_bind.proofs.ObjectIndexLaws.{row_is, few_slots, own_have, own_all}
use Rattle.wl_bind.proofs.numbering.Numbering.indices_of.Goals as goal
use Rattle.wl_bind.proofs.HostLaws.{slots_here}

pub row-row-requires : goal.row-row-requires
row-row-requires c =
    let n = c.args.self.now in
    let files = c.as_slice-files.ensures.objects ∙ c.files.ensures.objects in
    let lt : c.args.object < length c.as_slice-files.result.now =
    subst (λ (os : List Object). c.args.object < length os) (sym files) c.requires.within in
    let here = object_here n.input.now.link.objects c.as_slice-files.result.now c.args.object c.index-files-object.result files lt c.index-files-object.is in
    slice_get_within n.rows.now c.args.object _
    (row_there n.input.now n.rows.now c.args.object c.index-files-object.result c.requires.numbering.rows here)

pub slot_indices-requires-clause-row : goal.slot_indices-requires-clause-row
slot_indices-requires-clause-row c =
    let n = c.args.self.now in
    let input = n.input.now in
    let object = c.args.object in
    let o = c.index-files-object.result in
    let kind = own_kind c.args.own in
    let files = c.as_slice-files.ensures.objects ∙ c.files.ensures.objects in
    let lt : object < length c.as_slice-files.result.now =
    subst (λ (os : List Object). object < length os) (sym files) c.requires.within in
    let here = object_here input.link.objects c.as_slice-files.result.now object o files lt c.index-files-object.is in
    let row = row_is input n.rows.now c.args.own object o c.row-row.result.now c.requires.numbering.rows here c.row-row.ensures in
    subst (λ (k : WasmSymbolKind). c.row-row.result.now ≡ map (resolution_of input k) (import_slots input.link.objects object k)) (sym c.kind.ensures)
    (row ∙ ap (λ (slots : List ImportSlot). map (resolution_of input kind) slots)
    (sym (slots_here input.link.objects object kind o here)))

pub slot_indices-requires-clause-few : goal.slot_indices-requires-clause-few
slot_indices-requires-clause-few c =
    let n = c.args.self.now in
    let input = n.input.now in
    let object = c.args.object in
    let o = c.index-files-object.result in
    let kind = own_kind c.args.own in
    let files = c.as_slice-files.ensures.objects ∙ c.files.ensures.objects in
    let lt : object < length c.as_slice-files.result.now =
    subst (λ (os : List Object). object < length os) (sym files) c.requires.within in
    let here = object_here input.link.objects c.as_slice-files.result.now object o files lt c.index-files-object.is in
    row_few input kind object o c.row-row.result.now (length (object_slots object kind o))
    (row_is input n.rows.now c.args.own object o c.row-row.result.now c.requires.numbering.rows here c.row-row.ensures) refl
    (few_slots c.args.own object o (c.link_laws.ensures.functions object o) (c.link_laws.ensures.globals object o)
    (λ kind'. c.link_laws.ensures.few o kind' c.stands_for_an_object.ensures.whole))

pub slot_indices-requires-clause-there : goal.slot_indices-requires-clause-there
slot_indices-requires-clause-there c =
    let n = c.args.self.now in
    subst (λ (k : WasmSymbolKind). HaveSlotIndices n k (import_slots n.input.now.link.objects c.args.object k)) (sym c.kind.ensures)
    (own_have c.link_laws.ensures n c.requires.numbering c.files.ensures.kept c.args.own c.args.object)

pub push_own-requires-clause-fits : goal.push_own-requires-clause-fits
push_own-requires-clause-fits c =
    let n = c.args.self.now in
    subst (λ (firsts : List ℕ). (k : ℕ) → FitsOwn n.input.now firsts c.args.object (own_unit c.args.own k))
    (sym c.firsts-firsts.ensures) (firsts_fit n.input.now n c.requires.numbering c.files.ensures.kept c.args.own c.args.object)

pub returns : goal.returns
returns c = λ o here.
    let n = c.args.self.now in
    let input = n.input.now in
    let object = c.args.object in
    let own = c.args.own in
    let files = c.as_slice-files.ensures.objects ∙ c.files.ensures.objects in
    let same : c.index-files-object.result ≡ o =
    same_object input.link.objects c.as_slice-files.result.now object o c.index-files-object.result files c.index-files-object.is here in
    let slots = c.in_ok-indices.indices in
    let pushed : c.push_own.new.indices ≡ slots ++ own_indices_of input own (firsts_of n own) object (own_count own o) =
    c.in_ok-push_own.ensures
    ∙ (ap (λ (fs : List ℕ). slots ++ own_indices_of input own fs object c.count.result) c.firsts-firsts.ensures
    ∙ ap (λ (k : ℕ). slots ++ own_indices_of input own (firsts_of n own) object k)
    (c.count.ensures.count ∙ ap (λ (p : Object). own_count own p) same)) in
    subst (λ (list : List ℕ). AreObjectIndices input own object o list) (sym pushed)
    (own_all c.link_laws.ensures n c.requires.numbering c.files.ensures.kept own object o here slots
    (subst (λ (k : WasmSymbolKind). AllZip (IsSlotIndex n k) (import_slots input.link.objects object k) slots)
    c.kind.ensures c.in_ok-indices.ensures))
