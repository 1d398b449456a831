use Rattle.std.proofs.Common.{◌≡◌, ◌≤◌, vec_len, vec_capacity}
use Rattle.frontier.proofs.tree.boxes_made.Given as goal

abbrev pub invariant-loop : goal.invariant-loop
invariant-loop l = (vec_len l.pool ≡ l.counter) × (1023 ≤ vec_capacity l.pool)
