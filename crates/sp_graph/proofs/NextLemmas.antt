-- What is still to come once a walk was given, and at the next cut point.
use Rattle.std.proofs.Common.{◌≡◌, ◌<◌, ◌≤◌, ◌+◌, ℕ, true, false, List, [], ◌∷◌, ◌++◌, Option, Some, slice_get, length, refl, ap, sym, Result, Ok, Err}
use Rattle.std.specs.Result.{OnErr}
use Rattle.sp_graph.specs.Graph.{asserted_in}
use Rattle.sp_graph.specs.Walks.{NoLongWalk, walks_after}
use Rattle.sp_graph.specs.code.Search.{Goes, Ready, Trail, coming_walks, still_to_come}
use Rattle.sp_graph.specs.declared.graph.Node.{Node}
use Rattle.sp_graph.specs.declared.search.Place.{Place}
use Rattle.sp_graph.specs.declared.search.Place.TheVariants.{On, Back}
use Rattle.sp_graph.specs.declared.walk.Step.{Step}
use Rattle.sp_graph.specs.declared.walk.Walk.{Walk}
use Rattle.sp_graph.proofs.CutLemmas.{walks_next, no_walks_after}
use Rattle.sp_graph.proofs.SearchLemmas.{nothing_left, ready_at, start_at}

pub on_err : {T E P : Type 0} (r : Result T E) → P → OnErr r P
on_err (Ok v) p = tt
on_err (Err e) p = p

module _ (graph : List Node) (from : Option ℕ) (steps next_steps : List Step) (place next_place : Place) (rest : ℕ) where
  pub still_the_same :
      Goes graph from (coming_walks graph from steps place) [] next_steps next_place →
      still_to_come graph from next_steps next_place rest ≡ still_to_come graph from steps place rest
  unfolding still_to_come
  still_the_same g = ap (λ ws. ws ++ walks_after graph rest) (sym g.same)

  pub one_less :
      (walk : Walk) → Goes graph from (coming_walks graph from steps place) (walk ∷ []) next_steps next_place →
      still_to_come graph from steps place rest ≡ walk ∷ still_to_come graph from next_steps next_place rest
  unfolding still_to_come
  one_less walk g = ap (λ ws. ws ++ walks_after graph rest) g.same

  module _ (short : NoLongWalk graph from) (none : coming_walks graph from steps place ≡ []) (start : next_steps ≡ []) where
    module _ (back : next_place ≡ Back) where
      pub ready_back : Ready graph from next_steps next_place
      unfolding Trail
      ready_back = rw (start, back) (record { short = short; trail = tt; reached = tt })

      none_left : coming_walks graph from next_steps next_place ≡ []
      none_left = rw (start, back) (nothing_left graph from)

      pub nothing_more :
          length graph ≤ rest →
          (still_to_come graph from steps place rest ≡ []) × (still_to_come graph from next_steps next_place rest ≡ [])
      unfolding still_to_come
      nothing_more l = (rw (none, no_walks_after graph rest l) refl, rw (none_left, no_walks_after graph rest l) refl)

      pub no_cut :
          rest < length graph → asserted_in (slice_get graph rest) ≡ false →
          still_to_come graph from next_steps next_place (rest + 1) ≡ still_to_come graph from steps place rest
      unfolding still_to_come
      no_cut l a = rw (none_left, none) (sym (walks_next graph rest false l a))

    pub next_cut :
        rest < length graph → asserted_in (slice_get graph rest) ≡ true → NoLongWalk graph (Some rest) →
        still_to_come graph (Some rest) next_steps (On rest) (rest + 1) ≡ still_to_come graph from steps place rest
    unfolding still_to_come
    next_cut l a cut = rw (start, start_at graph rest cut, none) (sym (walks_next graph rest true l a))

    pub ready_cut : NoLongWalk graph (Some rest) → Ready graph (Some rest) next_steps (On rest)
    ready_cut cut = rw start (ready_at graph rest cut)
