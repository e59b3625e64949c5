use Rattle.sp_run.proofs.TextLaws.{flags_pushed}
use Rattle.sp_run.proofs.texts.push_flags.Goals as goal

pub returns : goal.returns
returns c =
    flags_pushed c.args.machine.now c.flag.result c.flag-2.result c.flag-3.result c.flag-4.result c.flag-5.result
    c.args.text.now.items c.push_flag.new.text.items c.push_flag-2.new.text.items c.push_flag-3.new.text.items c.push_flag-4.new.text.items c.push_flag-5.new.text.items
    c.flag.ensures.value c.flag-2.ensures.value c.flag-3.ensures.value c.flag-4.ensures.value c.flag-5.ensures.value
    c.in_ok-push_flag.ensures c.in_ok-push_flag-2.ensures c.in_ok-push_flag-3.ensures c.in_ok-push_flag-4.ensures c.in_ok-push_flag-5.ensures
