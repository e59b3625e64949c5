use Rattle.sp_examples.proofs.CallLemmas.{caller_entry}
use Rattle.sp_examples.proofs.FarLemmas.{far_entry}
use Rattle.sp_examples.proofs.FlowLemmas.{hop_entry, off_entry, on_entry}
use Rattle.sp_examples.proofs.LoadLemmas as load
use Rattle.sp_examples.proofs.PortLemmas.{send_entry, take_entry}
use Rattle.sp_examples.proofs.StoreLemmas as store
use Rattle.sp_examples.proofs.WatchLemmas as watch
use Rattle.sp_examples.proofs.laws.programs_are_entered.Goals as goal

pub returns : goal.returns
returns c = record {
  store = store.entry;
  send = send_entry;
  take = take_entry;
  load = load.entry;
  watch = watch.entry;
  far = far_entry;
  ended = on_entry;
  unended = off_entry;
  hop = hop_entry;
  caller = caller_entry;
}
