use Rattle.wl_plan.proofs.ExportPlaceLaws.{export_leads}
use Rattle.wl_plan.proofs.part_laws.exports_lead_to_their_things.Goals as goal

pub returns : goal.returns
returns c = export_leads
