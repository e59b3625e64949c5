-- What a line that breaks no rule keeps, and where the line after one stands.
use Rattle.std.proofs.Common.{◌≡◌, Bool, true, false, cond, not, ◌&&◌, List, [], ◌∷◌, ◌++◌, Option, Some, None, refl, ap, ◌∙◌}
use Rattle.std.proofs.lemmas.List.Sums.{fold-append}
use Rattle.sp_asm.specs.declared.listing.ItemKind.{ItemKind}
use Rattle.sp_note.specs.Parts.{Part}
use Rattle.sp_unit.specs.declared.refusal.UnitKind.{UnitKind}
use Rattle.sp_unit.specs.declared.refusal.UnitKind.TheVariants.{Stray, Unknown, Clash, OutsideRoutine, NotHere, TooMany}
use Rattle.sp_unit.specs.Lines.{Entry, is_instr, is_routine, is_end, ends_header, Place, Outside, InHeader, InBody, grown, next_place, place_after}
use Rattle.sp_unit.specs.Faults.{Source, is_outside, is_stray, is_unknown, clashes, is_not_here, is_too_many, is_data, statement_fault, note_fault}

unless : (b : Bool) (kind : UnitKind) (rest : Option UnitKind) → cond b (Some kind) rest ≡ None → (b ≡ false) × (rest ≡ None)
unless true kind rest h = absurd cc
unless false kind rest h = (refl, h)

-- a note line breaks no rule
pub record IsRight (s : Source) (above : List Entry) (place : Place) (part : Part) (below : List Entry) : Type 0 where
  pub stray : is_stray above place part below ≡ false
  pub unknown : is_unknown s part below ≡ false
  pub clash : clashes s above part ≡ false
  pub here : is_not_here place part below ≡ false
  pub many : is_too_many above place part ≡ false

none_of : (b c d e f : Bool) → cond b (Some Stray) (cond c (Some Unknown) (cond d (Some Clash) (cond e (Some NotHere) (cond f (Some TooMany) None)))) ≡ None
    → (b ≡ false) × (c ≡ false) × (d ≡ false) × (e ≡ false) × (f ≡ false)
none_of b c d e f h =
    let one = unless b Stray (cond c (Some Unknown) (cond d (Some Clash) (cond e (Some NotHere) (cond f (Some TooMany) None)))) h in
    let two = unless c Unknown (cond d (Some Clash) (cond e (Some NotHere) (cond f (Some TooMany) None))) one.1 in
    let three = unless d Clash (cond e (Some NotHere) (cond f (Some TooMany) None)) two.1 in
    let four = unless e NotHere (cond f (Some TooMany) None) three.1 in
    (one.0, two.0, three.0, four.0, (unless f TooMany None four.1).0)

pub note_right : (s : Source) (above : List Entry) (place : Place) (part : Part) (below : List Entry) → note_fault s above place part below ≡ None → IsRight s above place part below
note_right s above place part below h =
    let all = none_of (is_stray above place part below) (is_unknown s part below) (clashes s above part) (is_not_here place part below) (is_too_many above place part) h in
    record { stray = all.0; unknown = all.1; clash = all.2; here = all.3; many = all.4 }

-- an instruction stands in a routine, and data in none
pub statement_right : (outside : Bool) (kind : ItemKind) → statement_fault outside kind ≡ None → ((is_instr kind && outside) ≡ false) × ((is_data kind && not outside) ≡ false)
statement_right outside kind h =
    let one = unless (is_instr kind && outside) OutsideRoutine (cond (is_data kind && not outside) (Some NotHere) None) h in
    (one.0, (unless (is_data kind && not outside) NotHere None one.1).0)

-- ---- Places

pub after_more : (above : List Entry) (e : Entry) → place_after (above ++ e ∷ []) ≡ next_place (place_after above) e
after_more above e = fold-append next_place Outside above (e ∷ [])

grown_outside : (place : Place) (e : Entry) → is_outside (grown place e) ≡ is_outside place
grown_outside Outside e = refl
grown_outside (InHeader lines) e = by (ends_header e)
  where
    by : (b : Bool) → is_outside (cond b (InBody lines (e ∷ [])) (InHeader (lines ++ e ∷ []))) ≡ false
    by true = refl
    by false = refl
grown_outside (InBody lines more) e = refl

pub next_outside : (place : Place) (e : Entry) → is_outside (next_place place e) ≡ cond (is_routine e) false (cond (is_end e) true (is_outside place))
next_outside place e = by (is_routine e) (is_end e)
  where
    by : (r d : Bool) → is_outside (cond r (InHeader []) (cond d Outside (grown place e))) ≡ cond r false (cond d true (is_outside place))
    by true d = refl
    by false true = refl
    by false false = grown_outside place e

-- whether the line after one more stands in no routine
pub more_outside : (above : List Entry) (e : Entry) (o : Bool) → is_outside (place_after above) ≡ o → is_outside (place_after (above ++ e ∷ [])) ≡ cond (is_routine e) false (cond (is_end e) true o)
more_outside above e o h = ap is_outside (after_more above e) ∙ next_outside (place_after above) e ∙ ap (λ b. cond (is_routine e) false (cond (is_end e) true b)) h
