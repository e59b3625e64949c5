use Rattle.std.proofs.Common.{◌≡◌, ℕ, List, ◌∷◌, ◌++◌, sym, ap, subst, ◌∙◌, append_assoc}
use Rattle.std.proofs.lemmas.List.{map-append}
use Rattle.sp_asm.specs.Assembly.{Place, Row, places_of, IsPlaced, ArePlaced}
use Rattle.sp_asm.specs.Source.{HasAssembly}
use Rattle.sp_asm.proofs.MeaningLemmas.{ArePlain, means_at, means_in}
use Rattle.sp_asm.proofs.OrderLemmas.{names_in_order}
use Rattle.sp_asm.proofs.PlainLemmas.{plain_assembly}
use Rattle.sp_asm.proofs.SplitLaws.{splits_above}
use Rattle.sp_asm.proofs.laws.names_have_meanings.Goals as goal

parts_of : (rows front back : List Row) (r : Row) → rows ≡ front ++ r ∷ back → places_of rows ≡ places_of front ++ places_of (r ∷ back)
parts_of rows front back r e = ap places_of e ∙ map-append (λ (q : Row). q.place) front (r ∷ back)

plain_front : (all front rest : List Place) → all ≡ front ++ rest → ArePlain all → ArePlain front
plain_front all front rest e plain above below p whole = plain above (below ++ rest) p (e ∙ ap (λ l. l ++ rest) whole ∙ append_assoc above (p ∷ below) rest)

pub returns : goal.returns
returns c = record {
  above = λ source rows front back r name value h e.
      let parts = parts_of rows front back r e in
      means_in (places_of front) (splits_above IsPlaced (places_of front) (places_of (r ∷ back)) (subst ArePlaced parts h.assembles.2.places))
      (plain_front (places_of rows) (places_of front) (places_of (r ∷ back)) parts (plain_assembly source rows h)) name value;
  elsewhere = λ source rows front back r name value h e.
      means_at (places_of rows) h.assembles.2.places (plain_assembly source rows h) name (places_of front) (places_of (r ∷ back)) (parts_of rows front back r e) value;
  last = λ source rows name value h. means_in (places_of rows) h.assembles.2.places (plain_assembly source rows h) name value;
  order = names_in_order;
}
