use Rattle.std.proofs.Common.{◌≡◌, ◌∙◌, ℕ, ◌<◌, ◌≤◌, List, [], ◌∷◌, ◌++◌, false, fold, refl, sym, ap, subst}
use Rattle.std.proofs.lemmas.List.{map-append}
use Rattle.sp_asm.specs.Names.{Definition, fixed, with_definition, name_of, is_set}
use Rattle.sp_asm.specs.Assembly.{Place, is_duplicate, definition_by, definition_of, defined_value, address_after, address_behind, next_address, IsPlaced}
use Rattle.sp_asm.specs.code.Passes.{spot_of}
use Rattle.sp_asm.specs.declared.places.Spot.{Spot}
use Rattle.sp_asm.proofs.PlaceLaws.{definition_is, names_more, fixed_more, address_more}
use Rattle.sp_asm.proofs.SplitLaws.{splits_more}
use Rattle.sp_asm.proofs.places.Places.add_place.Goals as goal

pub returns-in_default-clause-err : goal.returns-in_default-clause-err
returns-in_default-clause-err c places h =
    let s = c.args.s.now in
    let p : Place = record { statement = c.args.s.now; address = address_after places; value = c.in_ok-value.value } in
    let apart : is_duplicate places c.args.s.now ≡ false = sym (c.is_duplicate.ensures places h) ∙ c.if-is_duplicate.false in (
      refl,
      (
        p,
        refl,
        refl,
        apart,
        c.in_ok-value.ensures.ok places h,
        λ room. c.in_default.ensures.none
            (λ l. subst (λ (a : ℕ). a < 65536) (sym h.address) (room.label l))
            (subst (λ (a : ℕ). address_behind s.code s.operands a c.in_ok-value.value ≤ 65536) (sym h.address) room.behind),
      ),
    )

pub returns-clause-ok : goal.returns-clause-ok
returns-clause-ok c places h =
    let s = c.args.s.now in
    let old = c.args.self.now in
    let v = c.in_ok-value.value in
    let p : Place = record { statement = c.args.s.now; address = address_after places; value = c.in_ok-value.value } in
    let apart : is_duplicate places c.args.s.now ≡ false = sym (c.is_duplicate.ensures places h) ∙ c.if-is_duplicate.false in
    let parts = c.in-Some.ensures.some in
    let next : c.in-Some.next ≡ next_address p = parts.0 ∙ ap (λ (a : ℕ). address_behind s.code s.operands a c.in_ok-value.value) h.address in
    let defined : definition_by c.name_of.result c.defined_value.result c.is_set.result ≡ definition_of p =
    (λ i. definition_by (c.name_of.ensures i) (c.defined_value.ensures i) (c.is_set.ensures i))
    ∙ definition_is s.code s.label old.address v (is_set s.code) parts.2
    ∙ ap (λ (a : ℕ). definition_by (name_of s) (defined_value s.code a c.in_ok-value.value) (is_set s.code)) h.address in
    let spot : old.spots.items ++ spot_of p ∷ [] ≡ c.define.new.self.spots.items ++ record { address = old.address; value = c.in_ok-value.value } ∷ [] =
    λ i. (sym (ap (λ v. v.items) c.in_ok-define.ensures.others.1) i) ++ record { address = sym h.address i; value = c.in_ok-value.value } ∷ [] in (
      p,
      refl,
      record {
        spots = map-append spot_of places (p ∷ []) ∙ ap (λ (xs : List Spot). xs ++ spot_of p ∷ []) h.spots ∙ spot ∙ sym c.in_ok-push.ensures.items;
        address = next ∙ address_more places p;
        names = c.in_ok-define.ensures.names ∙ ap (λ (ds : List Definition). fold with_definition old.names.entries ds) defined ∙ names_more places p old.names.entries h.names;
        fixed_names = c.in_ok-define.ensures.fixed ∙ ap (λ (ds : List Definition). fold with_definition old.fixed.entries (fixed ds)) defined ∙ fixed_more places p old.fixed.entries h.fixed_names;
        placed = splits_more IsPlaced places p (record {
          address = refl;
          apart = apart;
          value = c.in_ok-value.ensures.ok places h;
          room = record { label = λ l. subst (λ (a : ℕ). a < 65536) h.address (parts.2 l); behind = subst (λ (a : ℕ). a ≤ 65536) next parts.1 };
        }) h.placed;
      },
    )
