-- How it is found what the linker is asked for.
use Rattle.std.specs.Prelude.{Bool, true, false, ◌++◌}
use Rattle.std.specs.List.{list_any}
use Rattle.wl_symbols.specs.LinkerNames.{sort_of}
use Rattle.wl_symbols.specs.declared.linker_symbol.WasmLinkerSymbol.{WasmLinkerSymbol}
use Rattle.wl_symbols.specs.declared.made_sort.MadeSort.{MadeSort}
use Rattle.wl_symbols.specs.declared.made_sort.MadeSort.TheVariants.{Function, Global, Data}
use Rattle.wl_symbols.specs.declared.made_sort.NamedFunction.TheVariants as function
use Rattle.wl_symbols.specs.declared.made_sort.NamedGlobal.TheVariants as global
use Rattle.wl_bind.specs.Sameness.{same_made}
use Rattle.wl_bind.specs.declared.needs.LinkerImportAbsorption.{LinkerImportAbsorption}
use Rattle.wl_bind.specs.declared.resolution.ImportResolution.{ImportResolution}
use Rattle.wl_bind.specs.declared.resolution.ImportResolution.TheVariants.{Unresolved, ResolvedFunction, ResolvedGlobal, LinkerDefined, WeakUndefStub, GotMemSlot, GotFuncSlot}
use Rattle.wl_bind.specs.declared.resolution.ObjectImportResolutions.{ObjectImportResolutions}

-- the resolution is that thing
abbrev pub leads_to : WasmLinkerSymbol → ImportResolution → Bool
leads_to m (LinkerDefined n) = same_made m n
leads_to m Unresolved = false
leads_to m (ResolvedFunction object number) = false
leads_to m (ResolvedGlobal object number) = false
leads_to m (WeakUndefStub place) = false
leads_to m (GotMemSlot place) = false
leads_to m (GotFuncSlot place) = false

-- a slot of the object is resolved to that thing
abbrev pub row_leads_to : WasmLinkerSymbol → ObjectImportResolutions → Bool
row_leads_to m row =
    list_any (leads_to m) (row.function_resolutions ++ row.global_resolutions)

-- a thing of that sort is made, whatever is to be exported
abbrev pub is_sort_asked_for : LinkerImportAbsorption → MadeSort → Bool
is_sort_asked_for needs (Function function.CallCtors) = needs.needs_ctors
is_sort_asked_for needs (Function function.InitTls) = needs.needs_init_tls
is_sort_asked_for needs (Global global.MemoryBase) = needs.needs_memory_base
is_sort_asked_for needs (Global global.TableBase) = needs.needs_table_base
is_sort_asked_for needs (Global global.StackPointer) = true
is_sort_asked_for needs (Global global.TlsBase) = needs.needs_tls_base
is_sort_asked_for needs (Global global.TlsSize) = needs.needs_tls_size
is_sort_asked_for needs (Global global.TlsAlign) = needs.needs_tls_align
is_sort_asked_for needs Data = false

-- the thing is
abbrev pub is_asked_for : LinkerImportAbsorption → WasmLinkerSymbol → Bool
is_asked_for needs m = is_sort_asked_for needs (sort_of m)
