-- the sessions so far have done nothing yet, and as many ports are out
use Rattle.std.proofs.Common.{◌≡◌, ◌≤◌, ℕ, List, Some, length, vec_capacity}
use Rattle.std.specs.List.{slice_get}
use Rattle.hv_world.specs.declared.session.Session.{Session}
use Rattle.hv_world.specs.World.{ports_out}
use Rattle.hv_world.specs.Turns.{IsFreshSession}
use Rattle.hv_world.proofs.session.open_sessions.Given as goal

abbrev pub invariant-loop-name : goal.invariant-loop-name
invariant-loop-name g l = record {
  count : length l.sessions.items ≡ l.name-index;
  within : l.name-index ≤ length l.script.sessions;
  room : length l.script.sessions ≤ vec_capacity l.sessions;
  each : (i : ℕ) (name : List ℕ) (q : Session g.row.D-Port.Denot g.row.D-Port-File.Denot) → slice_get l.script.sessions i ≡ Some name → slice_get l.sessions.items i ≡ Some q
      → IsFreshSession g.D.Port.PageSink l.script name q;
  out : g.D.Device.returned l.dev ≡ ports_out l.name-index (g.D.Device.returned l.fn.dev);
}
