-- What the loop of `reach` keeps: the cells that were in use are as they were, and each one further is alone.
use Rattle.std.proofs.Common.{◌≡◌, ℕ, ◌<◌, ◌≤◌, get_or}
use Rattle.records.proofs.cells.Record.reach.Given as goal

abbrev pub invariant-loop-node : goal.invariant-loop-node
invariant-loop-node g l = record {
  used : l.self.used ≡ l.initial.self.used;
  kept : (a : ℕ) → a < l.initial.self.used → get_or l.self.cells a (g.C.Node.own 0) ≡ get_or l.initial.self.cells a (g.C.Node.own 0);
  new : (a : ℕ) → l.initial.self.used ≤ a → a < l.node → get_or l.self.cells a (g.C.Node.own 0) ≡ g.C.Node.own a;
}
