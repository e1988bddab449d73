-- A store that has the arrays of an earlier one. Assumes nothing.
use Rattle.std.proofs.Common.{refl, ◌∙◌}
use Rattle.scan.specs.Kept.{SameArrays}
use Rattle.scan.specs.declared.Store.{Store}

pub arrays-refl : (s : Store) → SameArrays s s
arrays-refl s = record { reached = refl; queue = refl; from = refl; by = refl; long = record { reached = refl; queue = refl; from = refl; by = refl } }

pub arrays-trans : {s t u : Store} → SameArrays s t → SameArrays t u → SameArrays s u
arrays-trans p q = record {
  reached = q.reached ∙ p.reached;
  queue = q.queue ∙ p.queue;
  from = q.from ∙ p.from;
  by = q.by ∙ p.by;
  long = record { reached = q.long.reached ∙ p.long.reached; queue = q.long.queue ∙ p.long.queue; from = q.long.from ∙ p.long.from; by = q.long.by ∙ p.long.by };
}
