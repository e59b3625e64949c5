use Rattle.sp_gen.proofs.forms.push_copy_script.Goals as goal

pub returns : goal.returns
returns c =
    let e1 = c.in_ok-push_between.ensures in
    let e2 = c.in_ok-push_line.ensures in
    let e3 = c.in_ok-push_line-2.ensures in
    cc
