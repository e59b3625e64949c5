use Rattle.sp_gen.proofs.forms.push_calls.Goals as goal

pub returns : goal.returns
returns c =
    let e1 = c.in_ok-push_named.ensures in
    let e2 = c.in_ok-push_numbered.ensures in
    let e3 = c.in_ok-push_line.ensures in
    let e4 = c.in_ok-push_line-2.ensures in
    let e5 = c.in_ok-push_call.ensures in
    let e6 = c.in_ok-push_line-3.ensures in
    let e7 = c.in_ok-push_line-4.ensures in
    cc
