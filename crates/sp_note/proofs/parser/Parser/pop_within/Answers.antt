use Rattle.std.proofs.Common.{◌≡◌, ◌-◌, [], true, false, take, refl, sym, ap, ◌∙◌, arith}
use Rattle.std.proofs.lemmas.List.{append-nil}
use Rattle.sp_note.specs.code.Frames.{frame_of, open_in, stack_of, yields}
use Rattle.sp_note.proofs.StackLemmas.{stack_of_nil, open_on, popped}
use Rattle.sp_note.proofs.parser.Parser.pop_within.Goals as goal

pub returns-in_err-frame : goal.returns-in_err-frame
returns-in_err-frame c =
    let e = c.in_err-frame.ensures in
    let none : c.args.self.now.frames.items ≡ [] = e.items ∙ append-nil c.pop.new.self.items ∙ e.rest ∙ ap (λ n. take (n - 1) c.args.self.now.frames.items) e.cases.0 in
    let no : yields c.args.rank (stack_of c.args.self.now.frames.items) ≡ false = ap (λ fs. yields c.args.rank (stack_of fs)) none ∙ ap (yields c.args.rank) stack_of_nil in
    let yes : yields c.args.rank (stack_of c.args.self.now.frames.items) ≡ true = sym c.yields.ensures ∙ c.if-not-yields.false in
    absurd cc

pub overflow_sub-self : goal.overflow_sub-self
overflow_sub-self c =
    let on = open_on (frame_of c.in_ok-frame.frame) (stack_of c.pop.new.self.items) in
    let seen = ap open_in (popped c.args.self.now.frames.items c.pop.new.self.items c.in_ok-frame.frame c.in_ok-frame.ensures.items) in
    omega (arith, on, seen, c.args.self.now.counted, c.weight.ensures.value)

pub invariant_of-self-2 : goal.invariant_of-self-2
invariant_of-self-2 c =
    let on = open_on (frame_of c.in_ok-frame.frame) (stack_of c.pop.new.self.items) in
    let seen = ap open_in (popped c.args.self.now.frames.items c.pop.new.self.items c.in_ok-frame.frame c.in_ok-frame.ensures.items) in
    record { counted = omega (arith, on, seen, c.args.self.now.counted, c.weight.ensures.value) }

pub returns : goal.returns
returns c = (
  record {
    top = popped c.args.self.now.frames.items c.pop.new.self.items c.in_ok-frame.frame c.in_ok-frame.ensures.items;
    place = refl;
    most = refl;
  },
  sym c.yields.ensures ∙ c.if-not-yields.false,
)
