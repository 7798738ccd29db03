-- a pick by the step of its session, and by the phase that it leaves
use Rattle.std.proofs.Common.{ℕ, ◌≡◌, ◌<◌, ◌%◌, List, Some, None, length, refl, sym, subst, ◌∙◌}
use Rattle.std.proofs.lemmas.Option.{slice_get_read}
use Rattle.hv_world.specs.Turns.{IsFirstPhase, IsNextPhase}
use Rattle.hv_world.specs.World.{ready_places}
use Rattle.hv_world.proofs.PickKept.{taken, place_at, session_below, due_of, same_place, kept_legal, kept_causes}
use Rattle.hv_world.proofs.PickExits.{stays, leaves, goes_on, ends, not_empty, is_nothing, few, wide, filled, picked_here, picked_on}
use Rattle.hv_world.proofs.Picking.{can_step}
use Rattle.hv_world.proofs.world.World.pick.Goals as goal

pub index_mut-requires : goal.index_mut-requires
index_mut-requires g c =
    let w = c.self.inside in
    let sink = g.D.Port.PageSink in
    let tells = g.D.Port.File.PageFile.tells in
    let pages = g.D.Port.File.PageFile.pages in
    let kept = c.self.invariant in
    let some : 0 < length w.unfinished.items = subst (λ (l : List ℕ). 0 < length l) (sym kept.ready) (subst (λ v. 0 < length (ready_places v)) (sym c.self.view_is) c.requires.ready) in
    let at_k = place_at w.unfinished.items c.args.k c.len.result c.index-at.result.now (c.len.ensures ∙ w.unfinished.ok.0) some c.index-at.ensures in
    let below = session_below tells pages sink w.script w.phase w.barrier w.catalogue w.sessions.items w.unfinished.items _ kept (c.args.k % c.len.result) c.index-at.result.now at_k in
    subst (λ (n : ℕ). c.index-at.result.now < n) (sym w.sessions.ok.0) below

pub step_session-requires-clause-can : goal.step_session-requires-clause-can
step_session-requires-clause-can g c =
    let w = c.self.inside in
    let sink = g.D.Port.PageSink in
    let tells = g.D.Port.File.PageFile.tells in
    let pages = g.D.Port.File.PageFile.pages in
    let kept = c.self.invariant in
    let some : 0 < length w.unfinished.items = subst (λ (l : List ℕ). 0 < length l) (sym kept.ready) (subst (λ v. 0 < length (ready_places v)) (sym c.self.view_is) c.requires.ready) in
    let at_k = place_at w.unfinished.items c.args.k c.len.result c.index-at.result.now (c.len.ensures ∙ w.unfinished.ok.0) some c.index-at.ensures in
    let below = session_below tells pages sink w.script w.phase w.barrier w.catalogue w.sessions.items w.unfinished.items _ kept (c.args.k % c.len.result) c.index-at.result.now at_k in
    can_step tells pages sink w.script w.phase w.barrier w.catalogue w.sessions.items w.unfinished.items _ kept (c.args.k % c.len.result) c.index-at.result.now c.index_mut.result.now at_k (slice_get_read w.sessions.items _ c.index-at.result.now c.index_mut.result.now refl below c.index_mut.ensures.value)

pub index-requires : goal.index-requires
index-requires g c =
    let w = c.self.inside in
    let sink = g.D.Port.PageSink in
    let tells = g.D.Port.File.PageFile.tells in
    let pages = g.D.Port.File.PageFile.pages in
    let kept = c.self.invariant in
    let some : 0 < length w.unfinished.items = subst (λ (l : List ℕ). 0 < length l) (sym kept.ready) (subst (λ v. 0 < length (ready_places v)) (sym c.self.view_is) c.requires.ready) in
    let at_k = place_at w.unfinished.items c.args.k c.len.result c.index-at.result.now (c.len.ensures ∙ w.unfinished.ok.0) some c.index-at.ensures in
    let below = session_below tells pages sink w.script w.phase w.barrier w.catalogue w.sessions.items w.unfinished.items _ kept (c.args.k % c.len.result) c.index-at.result.now at_k in
    subst (λ (n : ℕ). c.index-at.result.now < n) (sym w.sessions.ok.0) below

pub fill_ready-requires-clause-few : goal.fill_ready-requires-clause-few
fill_ready-requires-clause-few g c =
    let w = c.self.inside in
    let sink = g.D.Port.PageSink in
    let tells = g.D.Port.File.PageFile.tells in
    let pages = g.D.Port.File.PageFile.pages in
    let kept = c.self.invariant in
    let some : 0 < length w.unfinished.items = subst (λ (l : List ℕ). 0 < length l) (sym kept.ready) (subst (λ v. 0 < length (ready_places v)) (sym c.self.view_is) c.requires.ready) in
    let at_k = place_at w.unfinished.items c.args.k c.len.result c.index-at.result.now (c.len.ensures ∙ w.unfinished.ok.0) some c.index-at.ensures in
    let below = session_below tells pages sink w.script w.phase w.barrier w.catalogue w.sessions.items w.unfinished.items _ kept (c.args.k % c.len.result) c.index-at.result.now at_k in
    let t = taken tells pages sink w.script w.phase w.barrier w.catalogue c.step_session.new.catalogue w.sessions.items w.unfinished.items _ kept (c.args.k % c.len.result) c.index-at.result.now c.index_mut.result.now c.step_session.new.session at_k c.index_mut.ensures.value
    c.step_session.ensures.step c.step_session.ensures.files c.step_session.ensures.sound c.step_session.ensures.tables in
    few tells pages sink w.script w.phase w.barrier w.catalogue c.step_session.new.catalogue w.sessions.items w.unfinished.items _ kept (c.args.k % c.len.result) c.index-at.result.now c.index_mut.result.now c.step_session.new.session t c.as_slice-in-Some.result.now c.as_slice-in-Some.ensures.value

pub fill_ready-requires-clause-room : goal.fill_ready-requires-clause-room
fill_ready-requires-clause-room g c =
    let w = c.self.inside in
    let sink = g.D.Port.PageSink in
    let tells = g.D.Port.File.PageFile.tells in
    let pages = g.D.Port.File.PageFile.pages in
    let kept = c.self.invariant in
    let some : 0 < length w.unfinished.items = subst (λ (l : List ℕ). 0 < length l) (sym kept.ready) (subst (λ v. 0 < length (ready_places v)) (sym c.self.view_is) c.requires.ready) in
    let at_k = place_at w.unfinished.items c.args.k c.len.result c.index-at.result.now (c.len.ensures ∙ w.unfinished.ok.0) some c.index-at.ensures in
    let below = session_below tells pages sink w.script w.phase w.barrier w.catalogue w.sessions.items w.unfinished.items _ kept (c.args.k % c.len.result) c.index-at.result.now at_k in
    let t = taken tells pages sink w.script w.phase w.barrier w.catalogue c.step_session.new.catalogue w.sessions.items w.unfinished.items _ kept (c.args.k % c.len.result) c.index-at.result.now c.index_mut.result.now c.step_session.new.session at_k c.index_mut.ensures.value
    c.step_session.ensures.step c.step_session.ensures.files c.step_session.ensures.sound c.step_session.ensures.tables in
    wide tells pages sink w.script w.phase w.barrier w.catalogue c.step_session.new.catalogue w.sessions.items w.unfinished.items _ kept (c.args.k % c.len.result) c.index-at.result.now c.index_mut.result.now c.step_session.new.session t c.as_slice-in-Some.result.now _ c.as_slice-in-Some.ensures.value c.remove.ensures.capacity

pub invariant_of-self : goal.invariant_of-self
invariant_of-self g c =
    let w = c.self.inside in
    let sink = g.D.Port.PageSink in
    let tells = g.D.Port.File.PageFile.tells in
    let pages = g.D.Port.File.PageFile.pages in
    let kept = c.self.invariant in
    let some : 0 < length w.unfinished.items = subst (λ (l : List ℕ). 0 < length l) (sym kept.ready) (subst (λ v. 0 < length (ready_places v)) (sym c.self.view_is) c.requires.ready) in
    let at_k = place_at w.unfinished.items c.args.k c.len.result c.index-at.result.now (c.len.ensures ∙ w.unfinished.ok.0) some c.index-at.ensures in
    let below = session_below tells pages sink w.script w.phase w.barrier w.catalogue w.sessions.items w.unfinished.items _ kept (c.args.k % c.len.result) c.index-at.result.now at_k in
    let t = taken tells pages sink w.script w.phase w.barrier w.catalogue c.step_session.new.catalogue w.sessions.items w.unfinished.items _ kept (c.args.k % c.len.result) c.index-at.result.now c.index_mut.result.now c.step_session.new.session at_k c.index_mut.ensures.value
    c.step_session.ensures.step c.step_session.ensures.files c.step_session.ensures.sound c.step_session.ensures.tables in
    let due = due_of w.sessions.items c.index-at.result.now c.step_session.new.session _ w.phase _ _ below c.index.ensures c.next.ensures c.is_due.ensures ∙ c.if-is_due.true in
    stays tells pages sink w.script w.phase w.barrier w.catalogue c.step_session.new.catalogue w.sessions.items w.unfinished.items _ kept (c.args.k % c.len.result) c.index-at.result.now c.index_mut.result.now c.step_session.new.session t due some

pub returns-then-is_due-clause-pick : goal.returns-then-is_due-clause-pick
returns-then-is_due-clause-pick g c other told =
    let w = c.self.inside in
    let sink = g.D.Port.PageSink in
    let tells = g.D.Port.File.PageFile.tells in
    let pages = g.D.Port.File.PageFile.pages in
    let kept = c.self.invariant in
    let some : 0 < length w.unfinished.items = subst (λ (l : List ℕ). 0 < length l) (sym kept.ready) (subst (λ v. 0 < length (ready_places v)) (sym c.self.view_is) c.requires.ready) in
    let at_k = place_at w.unfinished.items c.args.k c.len.result c.index-at.result.now (c.len.ensures ∙ w.unfinished.ok.0) some c.index-at.ensures in
    let below = session_below tells pages sink w.script w.phase w.barrier w.catalogue w.sessions.items w.unfinished.items _ kept (c.args.k % c.len.result) c.index-at.result.now at_k in
    let t = taken tells pages sink w.script w.phase w.barrier w.catalogue c.step_session.new.catalogue w.sessions.items w.unfinished.items _ kept (c.args.k % c.len.result) c.index-at.result.now c.index_mut.result.now c.step_session.new.session at_k c.index_mut.ensures.value
    c.step_session.ensures.step c.step_session.ensures.files c.step_session.ensures.sound c.step_session.ensures.tables in
    let places = subst (λ v. ready_places v ≡ w.unfinished.items) c.self.view_is (sym kept.ready) in
    let same = same_place (ready_places c.args.self.now) w.unfinished.items c.args.k c.len.result c.index-at.result.now other places (c.len.ensures ∙ w.unfinished.ok.0) at_k told in
    rw (sym same, sym c.self.view_is) (picked_here tells pages sink w.script w.phase w.barrier w.catalogue c.step_session.new.catalogue w.sessions.items w.unfinished.items _ kept (c.args.k % c.len.result) c.index-at.result.now c.index_mut.result.now c.step_session.new.session t w.last)

pub returns-then-is_due-clause-legal : goal.returns-then-is_due-clause-legal
returns-then-is_due-clause-legal g c =
    let w = c.self.inside in
    let sink = g.D.Port.PageSink in
    let tells = g.D.Port.File.PageFile.tells in
    let pages = g.D.Port.File.PageFile.pages in
    let kept = c.self.invariant in
    let some : 0 < length w.unfinished.items = subst (λ (l : List ℕ). 0 < length l) (sym kept.ready) (subst (λ v. 0 < length (ready_places v)) (sym c.self.view_is) c.requires.ready) in
    let at_k = place_at w.unfinished.items c.args.k c.len.result c.index-at.result.now (c.len.ensures ∙ w.unfinished.ok.0) some c.index-at.ensures in
    let below = session_below tells pages sink w.script w.phase w.barrier w.catalogue w.sessions.items w.unfinished.items _ kept (c.args.k % c.len.result) c.index-at.result.now at_k in
    let t = taken tells pages sink w.script w.phase w.barrier w.catalogue c.step_session.new.catalogue w.sessions.items w.unfinished.items _ kept (c.args.k % c.len.result) c.index-at.result.now c.index_mut.result.now c.step_session.new.session at_k c.index_mut.ensures.value
    c.step_session.ensures.step c.step_session.ensures.files c.step_session.ensures.sound c.step_session.ensures.tables in
    let due = due_of w.sessions.items c.index-at.result.now c.step_session.new.session _ w.phase _ _ below c.index.ensures c.next.ensures c.is_due.ensures ∙ c.if-is_due.true in
    let go = stays tells pages sink w.script w.phase w.barrier w.catalogue c.step_session.new.catalogue w.sessions.items w.unfinished.items _ kept (c.args.k % c.len.result) c.index-at.result.now c.index_mut.result.now c.step_session.new.session t due some in
    kept_legal tells pages sink _ _ _ _ _ _ _ (Some c.index-at.result.now) go

pub returns-then-is_due-clause-causes : goal.returns-then-is_due-clause-causes
returns-then-is_due-clause-causes g c =
    let w = c.self.inside in
    let sink = g.D.Port.PageSink in
    let tells = g.D.Port.File.PageFile.tells in
    let pages = g.D.Port.File.PageFile.pages in
    let kept = c.self.invariant in
    let some : 0 < length w.unfinished.items = subst (λ (l : List ℕ). 0 < length l) (sym kept.ready) (subst (λ v. 0 < length (ready_places v)) (sym c.self.view_is) c.requires.ready) in
    let at_k = place_at w.unfinished.items c.args.k c.len.result c.index-at.result.now (c.len.ensures ∙ w.unfinished.ok.0) some c.index-at.ensures in
    let below = session_below tells pages sink w.script w.phase w.barrier w.catalogue w.sessions.items w.unfinished.items _ kept (c.args.k % c.len.result) c.index-at.result.now at_k in
    let t = taken tells pages sink w.script w.phase w.barrier w.catalogue c.step_session.new.catalogue w.sessions.items w.unfinished.items _ kept (c.args.k % c.len.result) c.index-at.result.now c.index_mut.result.now c.step_session.new.session at_k c.index_mut.ensures.value
    c.step_session.ensures.step c.step_session.ensures.files c.step_session.ensures.sound c.step_session.ensures.tables in
    let due = due_of w.sessions.items c.index-at.result.now c.step_session.new.session _ w.phase _ _ below c.index.ensures c.next.ensures c.is_due.ensures ∙ c.if-is_due.true in
    let go = stays tells pages sink w.script w.phase w.barrier w.catalogue c.step_session.new.catalogue w.sessions.items w.unfinished.items _ kept (c.args.k % c.len.result) c.index-at.result.now c.index_mut.result.now c.step_session.new.session t due some in
    kept_causes tells pages sink _ _ _ _ _ _ _ (Some c.index-at.result.now) go

pub invariant_of-self-then-not-is_empty : goal.invariant_of-self-then-not-is_empty
invariant_of-self-then-not-is_empty g c =
    let w = c.self.inside in
    let sink = g.D.Port.PageSink in
    let tells = g.D.Port.File.PageFile.tells in
    let pages = g.D.Port.File.PageFile.pages in
    let kept = c.self.invariant in
    let some : 0 < length w.unfinished.items = subst (λ (l : List ℕ). 0 < length l) (sym kept.ready) (subst (λ v. 0 < length (ready_places v)) (sym c.self.view_is) c.requires.ready) in
    let at_k = place_at w.unfinished.items c.args.k c.len.result c.index-at.result.now (c.len.ensures ∙ w.unfinished.ok.0) some c.index-at.ensures in
    let below = session_below tells pages sink w.script w.phase w.barrier w.catalogue w.sessions.items w.unfinished.items _ kept (c.args.k % c.len.result) c.index-at.result.now at_k in
    let t = taken tells pages sink w.script w.phase w.barrier w.catalogue c.step_session.new.catalogue w.sessions.items w.unfinished.items _ kept (c.args.k % c.len.result) c.index-at.result.now c.index_mut.result.now c.step_session.new.session at_k c.index_mut.ensures.value
    c.step_session.ensures.step c.step_session.ensures.files c.step_session.ensures.sound c.step_session.ensures.tables in
    let due = due_of w.sessions.items c.index-at.result.now c.step_session.new.session _ w.phase _ _ below c.index.ensures c.next.ensures c.is_due.ensures ∙ c.if-is_due.false in
    leaves tells pages sink w.script w.phase w.barrier w.catalogue c.step_session.new.catalogue w.sessions.items w.unfinished.items _ kept (c.args.k % c.len.result) c.index-at.result.now c.index_mut.result.now c.step_session.new.session t due c.remove.new.self.items _ c.remove.ensures.items c.remove.ensures.capacity (not_empty c.remove.new.self.items _ _ c.remove.new.self.ok.0 c.is_empty.ensures c.if-not-is_empty.true)

pub returns-then-not-is_empty-clause-pick : goal.returns-then-not-is_empty-clause-pick
returns-then-not-is_empty-clause-pick g c other told =
    let w = c.self.inside in
    let sink = g.D.Port.PageSink in
    let tells = g.D.Port.File.PageFile.tells in
    let pages = g.D.Port.File.PageFile.pages in
    let kept = c.self.invariant in
    let some : 0 < length w.unfinished.items = subst (λ (l : List ℕ). 0 < length l) (sym kept.ready) (subst (λ v. 0 < length (ready_places v)) (sym c.self.view_is) c.requires.ready) in
    let at_k = place_at w.unfinished.items c.args.k c.len.result c.index-at.result.now (c.len.ensures ∙ w.unfinished.ok.0) some c.index-at.ensures in
    let below = session_below tells pages sink w.script w.phase w.barrier w.catalogue w.sessions.items w.unfinished.items _ kept (c.args.k % c.len.result) c.index-at.result.now at_k in
    let t = taken tells pages sink w.script w.phase w.barrier w.catalogue c.step_session.new.catalogue w.sessions.items w.unfinished.items _ kept (c.args.k % c.len.result) c.index-at.result.now c.index_mut.result.now c.step_session.new.session at_k c.index_mut.ensures.value
    c.step_session.ensures.step c.step_session.ensures.files c.step_session.ensures.sound c.step_session.ensures.tables in
    let places = subst (λ v. ready_places v ≡ w.unfinished.items) c.self.view_is (sym kept.ready) in
    let same = same_place (ready_places c.args.self.now) w.unfinished.items c.args.k c.len.result c.index-at.result.now other places (c.len.ensures ∙ w.unfinished.ok.0) at_k told in
    rw (sym same, sym c.self.view_is) (picked_here tells pages sink w.script w.phase w.barrier w.catalogue c.step_session.new.catalogue w.sessions.items w.unfinished.items _ kept (c.args.k % c.len.result) c.index-at.result.now c.index_mut.result.now c.step_session.new.session t w.last)

pub returns-then-not-is_empty-clause-legal : goal.returns-then-not-is_empty-clause-legal
returns-then-not-is_empty-clause-legal g c =
    let w = c.self.inside in
    let sink = g.D.Port.PageSink in
    let tells = g.D.Port.File.PageFile.tells in
    let pages = g.D.Port.File.PageFile.pages in
    let kept = c.self.invariant in
    let some : 0 < length w.unfinished.items = subst (λ (l : List ℕ). 0 < length l) (sym kept.ready) (subst (λ v. 0 < length (ready_places v)) (sym c.self.view_is) c.requires.ready) in
    let at_k = place_at w.unfinished.items c.args.k c.len.result c.index-at.result.now (c.len.ensures ∙ w.unfinished.ok.0) some c.index-at.ensures in
    let below = session_below tells pages sink w.script w.phase w.barrier w.catalogue w.sessions.items w.unfinished.items _ kept (c.args.k % c.len.result) c.index-at.result.now at_k in
    let t = taken tells pages sink w.script w.phase w.barrier w.catalogue c.step_session.new.catalogue w.sessions.items w.unfinished.items _ kept (c.args.k % c.len.result) c.index-at.result.now c.index_mut.result.now c.step_session.new.session at_k c.index_mut.ensures.value
    c.step_session.ensures.step c.step_session.ensures.files c.step_session.ensures.sound c.step_session.ensures.tables in
    let due = due_of w.sessions.items c.index-at.result.now c.step_session.new.session _ w.phase _ _ below c.index.ensures c.next.ensures c.is_due.ensures ∙ c.if-is_due.false in
    let go = leaves tells pages sink w.script w.phase w.barrier w.catalogue c.step_session.new.catalogue w.sessions.items w.unfinished.items _ kept (c.args.k % c.len.result) c.index-at.result.now c.index_mut.result.now c.step_session.new.session t due c.remove.new.self.items _ c.remove.ensures.items c.remove.ensures.capacity (not_empty c.remove.new.self.items _ _ c.remove.new.self.ok.0 c.is_empty.ensures c.if-not-is_empty.true) in
    kept_legal tells pages sink _ _ _ _ _ _ _ (Some c.index-at.result.now) go

pub returns-then-not-is_empty-clause-causes : goal.returns-then-not-is_empty-clause-causes
returns-then-not-is_empty-clause-causes g c =
    let w = c.self.inside in
    let sink = g.D.Port.PageSink in
    let tells = g.D.Port.File.PageFile.tells in
    let pages = g.D.Port.File.PageFile.pages in
    let kept = c.self.invariant in
    let some : 0 < length w.unfinished.items = subst (λ (l : List ℕ). 0 < length l) (sym kept.ready) (subst (λ v. 0 < length (ready_places v)) (sym c.self.view_is) c.requires.ready) in
    let at_k = place_at w.unfinished.items c.args.k c.len.result c.index-at.result.now (c.len.ensures ∙ w.unfinished.ok.0) some c.index-at.ensures in
    let below = session_below tells pages sink w.script w.phase w.barrier w.catalogue w.sessions.items w.unfinished.items _ kept (c.args.k % c.len.result) c.index-at.result.now at_k in
    let t = taken tells pages sink w.script w.phase w.barrier w.catalogue c.step_session.new.catalogue w.sessions.items w.unfinished.items _ kept (c.args.k % c.len.result) c.index-at.result.now c.index_mut.result.now c.step_session.new.session at_k c.index_mut.ensures.value
    c.step_session.ensures.step c.step_session.ensures.files c.step_session.ensures.sound c.step_session.ensures.tables in
    let due = due_of w.sessions.items c.index-at.result.now c.step_session.new.session _ w.phase _ _ below c.index.ensures c.next.ensures c.is_due.ensures ∙ c.if-is_due.false in
    let go = leaves tells pages sink w.script w.phase w.barrier w.catalogue c.step_session.new.catalogue w.sessions.items w.unfinished.items _ kept (c.args.k % c.len.result) c.index-at.result.now c.index_mut.result.now c.step_session.new.session t due c.remove.new.self.items _ c.remove.ensures.items c.remove.ensures.capacity (not_empty c.remove.new.self.items _ _ c.remove.new.self.ok.0 c.is_empty.ensures c.if-not-is_empty.true) in
    kept_causes tells pages sink _ _ _ _ _ _ _ (Some c.index-at.result.now) go

pub invariant_of-self-in-Some : goal.invariant_of-self-in-Some
invariant_of-self-in-Some g c =
    let w = c.self.inside in
    let sink = g.D.Port.PageSink in
    let tells = g.D.Port.File.PageFile.tells in
    let pages = g.D.Port.File.PageFile.pages in
    let kept = c.self.invariant in
    let some : 0 < length w.unfinished.items = subst (λ (l : List ℕ). 0 < length l) (sym kept.ready) (subst (λ v. 0 < length (ready_places v)) (sym c.self.view_is) c.requires.ready) in
    let at_k = place_at w.unfinished.items c.args.k c.len.result c.index-at.result.now (c.len.ensures ∙ w.unfinished.ok.0) some c.index-at.ensures in
    let below = session_below tells pages sink w.script w.phase w.barrier w.catalogue w.sessions.items w.unfinished.items _ kept (c.args.k % c.len.result) c.index-at.result.now at_k in
    let t = taken tells pages sink w.script w.phase w.barrier w.catalogue c.step_session.new.catalogue w.sessions.items w.unfinished.items _ kept (c.args.k % c.len.result) c.index-at.result.now c.index_mut.result.now c.step_session.new.session at_k c.index_mut.ensures.value
    c.step_session.ensures.step c.step_session.ensures.files c.step_session.ensures.sound c.step_session.ensures.tables in
    let due = due_of w.sessions.items c.index-at.result.now c.step_session.new.session _ w.phase _ _ below c.index.ensures c.next.ensures c.is_due.ensures ∙ c.if-is_due.false in
    let go = goes_on tells pages sink w.script w.phase w.barrier w.catalogue c.step_session.new.catalogue w.sessions.items w.unfinished.items _ kept (c.args.k % c.len.result) c.index-at.result.now c.index_mut.result.now c.step_session.new.session t due c.remove.new.self.items c.fill_ready.new.ready.items _ c.in-Some.phase _ c.remove.ensures.items (is_nothing c.remove.new.self.items _ _ c.remove.new.self.ok.0 c.is_empty.ensures c.if-not-is_empty.false) (c.fill_ready.ensures.room ∙ c.remove.ensures.capacity) (subst (λ l. IsFirstPhase l c.in-Some.phase) c.as_slice.ensures.value c.in-Some.ensures) (filled tells pages sink w.script w.phase w.barrier w.catalogue c.step_session.new.catalogue w.sessions.items w.unfinished.items _ kept (c.args.k % c.len.result) c.index-at.result.now c.index_mut.result.now c.step_session.new.session t c.as_slice-in-Some.result.now c.in-Some.phase c.fill_ready.new.ready.items c.as_slice-in-Some.ensures.value c.fill_ready.ensures.ready) c.length-self-inside.ensures.history in
    go.1

pub returns-in-Some-clause-pick : goal.returns-in-Some-clause-pick
returns-in-Some-clause-pick g c other told =
    let w = c.self.inside in
    let sink = g.D.Port.PageSink in
    let tells = g.D.Port.File.PageFile.tells in
    let pages = g.D.Port.File.PageFile.pages in
    let kept = c.self.invariant in
    let some : 0 < length w.unfinished.items = subst (λ (l : List ℕ). 0 < length l) (sym kept.ready) (subst (λ v. 0 < length (ready_places v)) (sym c.self.view_is) c.requires.ready) in
    let at_k = place_at w.unfinished.items c.args.k c.len.result c.index-at.result.now (c.len.ensures ∙ w.unfinished.ok.0) some c.index-at.ensures in
    let below = session_below tells pages sink w.script w.phase w.barrier w.catalogue w.sessions.items w.unfinished.items _ kept (c.args.k % c.len.result) c.index-at.result.now at_k in
    let t = taken tells pages sink w.script w.phase w.barrier w.catalogue c.step_session.new.catalogue w.sessions.items w.unfinished.items _ kept (c.args.k % c.len.result) c.index-at.result.now c.index_mut.result.now c.step_session.new.session at_k c.index_mut.ensures.value
    c.step_session.ensures.step c.step_session.ensures.files c.step_session.ensures.sound c.step_session.ensures.tables in
    let due = due_of w.sessions.items c.index-at.result.now c.step_session.new.session _ w.phase _ _ below c.index.ensures c.next.ensures c.is_due.ensures ∙ c.if-is_due.false in
    let go = goes_on tells pages sink w.script w.phase w.barrier w.catalogue c.step_session.new.catalogue w.sessions.items w.unfinished.items _ kept (c.args.k % c.len.result) c.index-at.result.now c.index_mut.result.now c.step_session.new.session t due c.remove.new.self.items c.fill_ready.new.ready.items _ c.in-Some.phase _ c.remove.ensures.items (is_nothing c.remove.new.self.items _ _ c.remove.new.self.ok.0 c.is_empty.ensures c.if-not-is_empty.false) (c.fill_ready.ensures.room ∙ c.remove.ensures.capacity) (subst (λ l. IsFirstPhase l c.in-Some.phase) c.as_slice.ensures.value c.in-Some.ensures) (filled tells pages sink w.script w.phase w.barrier w.catalogue c.step_session.new.catalogue w.sessions.items w.unfinished.items _ kept (c.args.k % c.len.result) c.index-at.result.now c.index_mut.result.now c.step_session.new.session t c.as_slice-in-Some.result.now c.in-Some.phase c.fill_ready.new.ready.items c.as_slice-in-Some.ensures.value c.fill_ready.ensures.ready) c.length-self-inside.ensures.history in
    let places = subst (λ v. ready_places v ≡ w.unfinished.items) c.self.view_is (sym kept.ready) in
    let same = same_place (ready_places c.args.self.now) w.unfinished.items c.args.k c.len.result c.index-at.result.now other places (c.len.ensures ∙ w.unfinished.ok.0) at_k told in
    rw (sym same, sym c.self.view_is) (picked_on tells pages sink w.script w.phase w.barrier w.catalogue c.step_session.new.catalogue w.sessions.items w.unfinished.items _ kept (c.args.k % c.len.result) c.index-at.result.now c.index_mut.result.now c.step_session.new.session t c.in-Some.phase w.last go.0)

pub returns-in-Some-clause-legal : goal.returns-in-Some-clause-legal
returns-in-Some-clause-legal g c =
    let w = c.self.inside in
    let sink = g.D.Port.PageSink in
    let tells = g.D.Port.File.PageFile.tells in
    let pages = g.D.Port.File.PageFile.pages in
    let kept = c.self.invariant in
    let some : 0 < length w.unfinished.items = subst (λ (l : List ℕ). 0 < length l) (sym kept.ready) (subst (λ v. 0 < length (ready_places v)) (sym c.self.view_is) c.requires.ready) in
    let at_k = place_at w.unfinished.items c.args.k c.len.result c.index-at.result.now (c.len.ensures ∙ w.unfinished.ok.0) some c.index-at.ensures in
    let below = session_below tells pages sink w.script w.phase w.barrier w.catalogue w.sessions.items w.unfinished.items _ kept (c.args.k % c.len.result) c.index-at.result.now at_k in
    let t = taken tells pages sink w.script w.phase w.barrier w.catalogue c.step_session.new.catalogue w.sessions.items w.unfinished.items _ kept (c.args.k % c.len.result) c.index-at.result.now c.index_mut.result.now c.step_session.new.session at_k c.index_mut.ensures.value
    c.step_session.ensures.step c.step_session.ensures.files c.step_session.ensures.sound c.step_session.ensures.tables in
    let due = due_of w.sessions.items c.index-at.result.now c.step_session.new.session _ w.phase _ _ below c.index.ensures c.next.ensures c.is_due.ensures ∙ c.if-is_due.false in
    let go = goes_on tells pages sink w.script w.phase w.barrier w.catalogue c.step_session.new.catalogue w.sessions.items w.unfinished.items _ kept (c.args.k % c.len.result) c.index-at.result.now c.index_mut.result.now c.step_session.new.session t due c.remove.new.self.items c.fill_ready.new.ready.items _ c.in-Some.phase _ c.remove.ensures.items (is_nothing c.remove.new.self.items _ _ c.remove.new.self.ok.0 c.is_empty.ensures c.if-not-is_empty.false) (c.fill_ready.ensures.room ∙ c.remove.ensures.capacity) (subst (λ l. IsFirstPhase l c.in-Some.phase) c.as_slice.ensures.value c.in-Some.ensures) (filled tells pages sink w.script w.phase w.barrier w.catalogue c.step_session.new.catalogue w.sessions.items w.unfinished.items _ kept (c.args.k % c.len.result) c.index-at.result.now c.index_mut.result.now c.step_session.new.session t c.as_slice-in-Some.result.now c.in-Some.phase c.fill_ready.new.ready.items c.as_slice-in-Some.ensures.value c.fill_ready.ensures.ready) c.length-self-inside.ensures.history in
    kept_legal tells pages sink _ _ _ _ _ _ _ None go.1

pub returns-in-Some-clause-causes : goal.returns-in-Some-clause-causes
returns-in-Some-clause-causes g c =
    let w = c.self.inside in
    let sink = g.D.Port.PageSink in
    let tells = g.D.Port.File.PageFile.tells in
    let pages = g.D.Port.File.PageFile.pages in
    let kept = c.self.invariant in
    let some : 0 < length w.unfinished.items = subst (λ (l : List ℕ). 0 < length l) (sym kept.ready) (subst (λ v. 0 < length (ready_places v)) (sym c.self.view_is) c.requires.ready) in
    let at_k = place_at w.unfinished.items c.args.k c.len.result c.index-at.result.now (c.len.ensures ∙ w.unfinished.ok.0) some c.index-at.ensures in
    let below = session_below tells pages sink w.script w.phase w.barrier w.catalogue w.sessions.items w.unfinished.items _ kept (c.args.k % c.len.result) c.index-at.result.now at_k in
    let t = taken tells pages sink w.script w.phase w.barrier w.catalogue c.step_session.new.catalogue w.sessions.items w.unfinished.items _ kept (c.args.k % c.len.result) c.index-at.result.now c.index_mut.result.now c.step_session.new.session at_k c.index_mut.ensures.value
    c.step_session.ensures.step c.step_session.ensures.files c.step_session.ensures.sound c.step_session.ensures.tables in
    let due = due_of w.sessions.items c.index-at.result.now c.step_session.new.session _ w.phase _ _ below c.index.ensures c.next.ensures c.is_due.ensures ∙ c.if-is_due.false in
    let go = goes_on tells pages sink w.script w.phase w.barrier w.catalogue c.step_session.new.catalogue w.sessions.items w.unfinished.items _ kept (c.args.k % c.len.result) c.index-at.result.now c.index_mut.result.now c.step_session.new.session t due c.remove.new.self.items c.fill_ready.new.ready.items _ c.in-Some.phase _ c.remove.ensures.items (is_nothing c.remove.new.self.items _ _ c.remove.new.self.ok.0 c.is_empty.ensures c.if-not-is_empty.false) (c.fill_ready.ensures.room ∙ c.remove.ensures.capacity) (subst (λ l. IsFirstPhase l c.in-Some.phase) c.as_slice.ensures.value c.in-Some.ensures) (filled tells pages sink w.script w.phase w.barrier w.catalogue c.step_session.new.catalogue w.sessions.items w.unfinished.items _ kept (c.args.k % c.len.result) c.index-at.result.now c.index_mut.result.now c.step_session.new.session t c.as_slice-in-Some.result.now c.in-Some.phase c.fill_ready.new.ready.items c.as_slice-in-Some.ensures.value c.fill_ready.ensures.ready) c.length-self-inside.ensures.history in
    kept_causes tells pages sink _ _ _ _ _ _ _ None go.1

pub invariant_of-self-in_default : goal.invariant_of-self-in_default
invariant_of-self-in_default g c =
    let w = c.self.inside in
    let sink = g.D.Port.PageSink in
    let tells = g.D.Port.File.PageFile.tells in
    let pages = g.D.Port.File.PageFile.pages in
    let kept = c.self.invariant in
    let some : 0 < length w.unfinished.items = subst (λ (l : List ℕ). 0 < length l) (sym kept.ready) (subst (λ v. 0 < length (ready_places v)) (sym c.self.view_is) c.requires.ready) in
    let at_k = place_at w.unfinished.items c.args.k c.len.result c.index-at.result.now (c.len.ensures ∙ w.unfinished.ok.0) some c.index-at.ensures in
    let below = session_below tells pages sink w.script w.phase w.barrier w.catalogue w.sessions.items w.unfinished.items _ kept (c.args.k % c.len.result) c.index-at.result.now at_k in
    let t = taken tells pages sink w.script w.phase w.barrier w.catalogue c.step_session.new.catalogue w.sessions.items w.unfinished.items _ kept (c.args.k % c.len.result) c.index-at.result.now c.index_mut.result.now c.step_session.new.session at_k c.index_mut.ensures.value
    c.step_session.ensures.step c.step_session.ensures.files c.step_session.ensures.sound c.step_session.ensures.tables in
    let due = due_of w.sessions.items c.index-at.result.now c.step_session.new.session _ w.phase _ _ below c.index.ensures c.next.ensures c.is_due.ensures ∙ c.if-is_due.false in
    ends tells pages sink w.script w.phase w.barrier w.catalogue c.step_session.new.catalogue w.sessions.items w.unfinished.items _ kept (c.args.k % c.len.result) c.index-at.result.now c.index_mut.result.now c.step_session.new.session t due c.remove.new.self.items _ c.remove.ensures.items c.remove.ensures.capacity (subst (λ l. IsNextPhase l None) c.as_slice.ensures.value c.in_default.ensures)

pub returns-in_default-clause-pick : goal.returns-in_default-clause-pick
returns-in_default-clause-pick g c other told =
    let w = c.self.inside in
    let sink = g.D.Port.PageSink in
    let tells = g.D.Port.File.PageFile.tells in
    let pages = g.D.Port.File.PageFile.pages in
    let kept = c.self.invariant in
    let some : 0 < length w.unfinished.items = subst (λ (l : List ℕ). 0 < length l) (sym kept.ready) (subst (λ v. 0 < length (ready_places v)) (sym c.self.view_is) c.requires.ready) in
    let at_k = place_at w.unfinished.items c.args.k c.len.result c.index-at.result.now (c.len.ensures ∙ w.unfinished.ok.0) some c.index-at.ensures in
    let below = session_below tells pages sink w.script w.phase w.barrier w.catalogue w.sessions.items w.unfinished.items _ kept (c.args.k % c.len.result) c.index-at.result.now at_k in
    let t = taken tells pages sink w.script w.phase w.barrier w.catalogue c.step_session.new.catalogue w.sessions.items w.unfinished.items _ kept (c.args.k % c.len.result) c.index-at.result.now c.index_mut.result.now c.step_session.new.session at_k c.index_mut.ensures.value
    c.step_session.ensures.step c.step_session.ensures.files c.step_session.ensures.sound c.step_session.ensures.tables in
    let places = subst (λ v. ready_places v ≡ w.unfinished.items) c.self.view_is (sym kept.ready) in
    let same = same_place (ready_places c.args.self.now) w.unfinished.items c.args.k c.len.result c.index-at.result.now other places (c.len.ensures ∙ w.unfinished.ok.0) at_k told in
    rw (sym same, sym c.self.view_is) (picked_here tells pages sink w.script w.phase w.barrier w.catalogue c.step_session.new.catalogue w.sessions.items w.unfinished.items _ kept (c.args.k % c.len.result) c.index-at.result.now c.index_mut.result.now c.step_session.new.session t w.last)

pub returns-in_default-clause-legal : goal.returns-in_default-clause-legal
returns-in_default-clause-legal g c =
    let w = c.self.inside in
    let sink = g.D.Port.PageSink in
    let tells = g.D.Port.File.PageFile.tells in
    let pages = g.D.Port.File.PageFile.pages in
    let kept = c.self.invariant in
    let some : 0 < length w.unfinished.items = subst (λ (l : List ℕ). 0 < length l) (sym kept.ready) (subst (λ v. 0 < length (ready_places v)) (sym c.self.view_is) c.requires.ready) in
    let at_k = place_at w.unfinished.items c.args.k c.len.result c.index-at.result.now (c.len.ensures ∙ w.unfinished.ok.0) some c.index-at.ensures in
    let below = session_below tells pages sink w.script w.phase w.barrier w.catalogue w.sessions.items w.unfinished.items _ kept (c.args.k % c.len.result) c.index-at.result.now at_k in
    let t = taken tells pages sink w.script w.phase w.barrier w.catalogue c.step_session.new.catalogue w.sessions.items w.unfinished.items _ kept (c.args.k % c.len.result) c.index-at.result.now c.index_mut.result.now c.step_session.new.session at_k c.index_mut.ensures.value
    c.step_session.ensures.step c.step_session.ensures.files c.step_session.ensures.sound c.step_session.ensures.tables in
    let due = due_of w.sessions.items c.index-at.result.now c.step_session.new.session _ w.phase _ _ below c.index.ensures c.next.ensures c.is_due.ensures ∙ c.if-is_due.false in
    let go = ends tells pages sink w.script w.phase w.barrier w.catalogue c.step_session.new.catalogue w.sessions.items w.unfinished.items _ kept (c.args.k % c.len.result) c.index-at.result.now c.index_mut.result.now c.step_session.new.session t due c.remove.new.self.items _ c.remove.ensures.items c.remove.ensures.capacity (subst (λ l. IsNextPhase l None) c.as_slice.ensures.value c.in_default.ensures) in
    kept_legal tells pages sink _ _ _ _ _ _ _ (Some c.index-at.result.now) go

pub returns-in_default-clause-causes : goal.returns-in_default-clause-causes
returns-in_default-clause-causes g c =
    let w = c.self.inside in
    let sink = g.D.Port.PageSink in
    let tells = g.D.Port.File.PageFile.tells in
    let pages = g.D.Port.File.PageFile.pages in
    let kept = c.self.invariant in
    let some : 0 < length w.unfinished.items = subst (λ (l : List ℕ). 0 < length l) (sym kept.ready) (subst (λ v. 0 < length (ready_places v)) (sym c.self.view_is) c.requires.ready) in
    let at_k = place_at w.unfinished.items c.args.k c.len.result c.index-at.result.now (c.len.ensures ∙ w.unfinished.ok.0) some c.index-at.ensures in
    let below = session_below tells pages sink w.script w.phase w.barrier w.catalogue w.sessions.items w.unfinished.items _ kept (c.args.k % c.len.result) c.index-at.result.now at_k in
    let t = taken tells pages sink w.script w.phase w.barrier w.catalogue c.step_session.new.catalogue w.sessions.items w.unfinished.items _ kept (c.args.k % c.len.result) c.index-at.result.now c.index_mut.result.now c.step_session.new.session at_k c.index_mut.ensures.value
    c.step_session.ensures.step c.step_session.ensures.files c.step_session.ensures.sound c.step_session.ensures.tables in
    let due = due_of w.sessions.items c.index-at.result.now c.step_session.new.session _ w.phase _ _ below c.index.ensures c.next.ensures c.is_due.ensures ∙ c.if-is_due.false in
    let go = ends tells pages sink w.script w.phase w.barrier w.catalogue c.step_session.new.catalogue w.sessions.items w.unfinished.items _ kept (c.args.k % c.len.result) c.index-at.result.now c.index_mut.result.now c.step_session.new.session t due c.remove.new.self.items _ c.remove.ensures.items c.remove.ensures.capacity (subst (λ l. IsNextPhase l None) c.as_slice.ensures.value c.in_default.ensures) in
    kept_causes tells pages sink _ _ _ _ _ _ _ (Some c.index-at.result.now) go
