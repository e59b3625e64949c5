-- Lists that grow by what passes a test, and addresses in areas.
use Rattle.std.proofs.Common.{◌≡◌, ◌+◌, ◌<◌, ℕ, Bool, true, false, cond, List, [], ◌∷◌, ◌++◌, refl, ap, ◌∙◌, length, drop, get_or, map}
use Rattle.std.specs.List.{filter}
use Rattle.std.proofs.lemmas.List.{at_drop_more}
use Rattle.sp_prog.specs.declared.area.Area.{Area}
use Rattle.sp_term.specs.Tree.{Tree, Or}
use Rattle.sp_cond.specs.Conclusions.{in_area, in_one, in_areas}
use Rattle.sp_cond.specs.Execution.{span}
use Rattle.sp_conditions.specs.code.Spans.{among}

at_test : {X : Type 0} (done rest : List X) (x : X) (b : Bool) → done ++ cond b (x ∷ rest) rest ≡ (done ++ cond b (x ∷ []) []) ++ rest
at_test [] rest x true = refl
at_test [] rest x false = refl
at_test (d ∷ ds) rest x b = ap (λ zs. d ∷ zs) (at_test ds rest x b)

-- the element at a place is taken where it passes
pub keep_more :
    {X : Type 0} (p : X → Bool) (done xs : List X) (i : ℕ) (d : X) → i < length xs →
    done ++ filter p (drop i xs) ≡ (done ++ filter p (get_or xs i d ∷ [])) ++ filter p (drop (i + 1) xs)
keep_more p done xs i d l =
    at_drop_more (λ zs. done ++ filter p zs) xs i d l ∙ at_test done (filter p (drop (i + 1) xs)) (get_or xs i d) (p (get_or xs i d))

one_of : (t : Tree) (area : Area) (areas : List Area) → among t (span area ∷ map span areas) ≡ in_one t area areas
one_of t area [] = refl
one_of t area (next ∷ areas) = ap (Or (in_area t area)) (one_of t next areas)

-- an address is in one of some areas where it is in one of their spans
pub among_areas : (t : Tree) (areas : List Area) → among t (map span areas) ≡ in_areas t areas
among_areas t [] = refl
among_areas t (area ∷ areas) = one_of t area areas

at_mapped : {X Y : Type 0} (f : X → Y) (done : List Y) (rest : List X) (x : X) (b : Bool) →
    done ++ map f (cond b (x ∷ rest) rest) ≡ (done ++ map f (cond b (x ∷ []) [])) ++ map f rest
at_mapped f [] rest x true = refl
at_mapped f [] rest x false = refl
at_mapped f (d ∷ ds) rest x b = ap (λ zs. d ∷ zs) (at_mapped f ds rest x b)

-- the image of the element at a place is taken where the element passes
pub keep_mapped :
    {X Y : Type 0} (f : X → Y) (p : X → Bool) (done : List Y) (xs : List X) (i : ℕ) (d : X) → i < length xs →
    done ++ map f (filter p (drop i xs)) ≡ (done ++ map f (filter p (get_or xs i d ∷ []))) ++ map f (filter p (drop (i + 1) xs))
keep_mapped f p done xs i d l =
    at_drop_more (λ zs. done ++ map f (filter p zs)) xs i d l
    ∙ at_mapped f done (filter p (drop (i + 1) xs)) (get_or xs i d) (p (get_or xs i d))

pub append_twice : {X : Type 0} (xs ys zs : List X) → (xs ++ ys) ++ zs ≡ xs ++ (ys ++ zs)
append_twice [] ys zs = refl
append_twice (x ∷ xs) ys zs = ap (λ ws. x ∷ ws) (append_twice xs ys zs)
