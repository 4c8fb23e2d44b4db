use Rattle.std.proofs.Common.{◌∙◌, refl}
use Rattle.wl_plan.proofs.plan.plan_of.Goals as goal

pub returns : goal.returns
returns c =
    let outline = c.requires.outline in
    let parts = c.requires.parts in
    let whole = c.output_module-whole.ensures in
    record {
      placing = c.args.placing;
      placed = c.requires.placed;
      entities = record {
        table = whole.table;
        elements = parts.values.elements;
        slots = parts.values.slots;
        start = whole.start;
      };
      places = record {
        data_layouts = refl;
        memory = whole.memory;
        memory_base = refl;
        tls_base = refl;
        tls_size = refl;
        tls_align = refl;
        shared_tls = whole.shared_tls;
        data_end = refl;
        data_size = parts.sizes.segments;
      };
      spaces = record {
        types = c.in_ok-output_types.ensures ∙ outline.bindings.types;
        imports = parts.names.imports;
        functions = outline.functions;
        globals = parts.values.globals;
        maps = c.requires.maps;
        exports = outline.interface.exports;
      };
      fixups = parts.values.fixups;
      bodies = record {
        bodies = parts.bodies;
        size = (parts.sizes.text, parts.sizes.spelled, parts.sizes.code);
        features = c.output_features.ensures c.args.input.now.link c.args-2.ensures outline.features;
        debug_sections = parts.names.debug_sections;
      };
    }
