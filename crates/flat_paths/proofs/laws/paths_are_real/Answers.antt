use Rattle.flat_paths.proofs.Walks as walks
use Rattle.flat_paths.proofs.laws.paths_are_real.Goals as goal

pub returns : goal.returns
returns c = record {
  path_leaves = walks.path_leaves;
  leaves_by_path = walks.leaves_by_path;
}
