use Rattle.sp_struct.proofs.CallLemmas.{leads_told}
use Rattle.sp_struct.proofs.calls.all_leads.Goals as goal

pub returns : goal.returns
returns c =
    leads_told c.args.unit.now c.in_ok-rows.rows.items c.close.new.rows.items c.in_ok-rows.ensures c.in_ok-close.ensures.size c.in_ok-close.ensures.ways
