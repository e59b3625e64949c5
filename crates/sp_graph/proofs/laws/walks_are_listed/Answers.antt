use Rattle.sp_graph.proofs.LongLemmas.{no_walk_is_long}
use Rattle.sp_graph.proofs.WalkLemmas.{walk_listed, listed_is_walk}
use Rattle.sp_graph.proofs.laws.walks_are_listed.Goals as goal

pub returns : goal.returns
returns c = record {
  every = λ graph from w g cut is. walk_listed graph from (no_walk_is_long graph from g.whole g.some cut g.cycles) w is;
  only = λ graph from w listed. listed_is_walk graph from w listed;
  short = λ graph from g cut. no_walk_is_long graph from g.whole g.some cut g.cycles;
}
