-- The premise of content over what landed at several ports: what one port read is among it, and stays so as one reads more.
use Rattle.std.proofs.Common.{◌≡◌, ℕ, zero, suc, ◌+◌, ◌-◌, ◌≤◌, Bool, List, [], ◌∷◌, ◌++◌, length, set, Some, inl, inr, sym, subst, ◌∙◌}
use Rattle.std.specs.List.{slice_get}
use Rattle.hv_dev.specs.Reading.{Landing}
use Rattle.hv_model.specs.declared.script.Script.{Script}
use Rattle.hv_model.specs.declared.catalogue.Entry.{Entry}
use Rattle.hv_model.specs.Database.{RowDatabase}
use Rattle.hv_model.specs.Command.{database_after}
use Rattle.hv_model.proofs.Places.{slice_get-front, slice_get-behind, slice_get-append_cases}
use Rattle.hv_world.specs.Known.{NoneForgedIn, DatabaseIsKnown, Known}
use Rattle.hv_world.specs.Reads.{PortSeen}
use Rattle.hv_world.specs.World.{landings_of}
use Rattle.hv_world.proofs.Knowing.{is_at}

-- each element of a list stands somewhere in another
abbrev pub AreAmong : {X : Type 0} → List X → List X → Type 0
AreAmong {X} xs ys = (k : ℕ) (x : X) → slice_get xs k ≡ Some x → (j : ℕ) × (slice_get ys j ≡ Some x)

among_front : {X : Type 0} (xs ys : List X) → AreAmong xs (xs ++ ys)
among_front xs ys k x at = (k, slice_get-front xs ys k x at)

among_behind : {X : Type 0} (xs ys : List X) → AreAmong ys (xs ++ ys)
among_behind xs ys k x at = (length xs + k, slice_get-behind xs ys k ∙ at)

-- and so do those of two lists in a row
among_both : {X : Type 0} (xs ys zs ws : List X) → AreAmong xs zs → AreAmong ys ws → AreAmong (xs ++ ys) (zs ++ ws)
among_both xs ys zs ws firsts seconds k x at =
    elim (slice_get-append_cases xs ys k x at) [
      | inl first ↦ (let there = firsts k x first in (there.0, slice_get-front zs ws there.0 x there.1))
      | inr second ↦ (let there = seconds (k - length xs) x second in (length zs + there.0, slice_get-behind zs ws there.0 ∙ there.1))
    ]

-- what landed at a port is among all that landed
pub port_among : {File : Type 0} (ports : List (PortSeen File)) (at : ℕ) (port : PortSeen File) → slice_get ports at ≡ Some port → AreAmong port.reading.landings (landings_of ports)
port_among [] at port is = absurd cc
port_among {File} (q ∷ ports) zero port is =
    let same : q ≡ port = cc in
    subst (λ (r : PortSeen File). AreAmong r.reading.landings (q.reading.landings ++ landings_of ports)) same (among_front q.reading.landings (landings_of ports))
port_among (q ∷ ports) (suc at) port is = λ k read stands.
    let there = port_among ports at port is k read stands in
    (length q.reading.landings + there.0, slice_get-behind q.reading.landings (landings_of ports) there.0 ∙ there.1)

-- all that landed is among it once one port has read more
pub ports_among : {File : Type 0} (ports : List (PortSeen File)) (at : ℕ) (port new : PortSeen File) (more : List (Landing File)) → slice_get ports at ≡ Some port
    → new.reading.landings ≡ port.reading.landings ++ more → AreAmong (landings_of ports) (landings_of (set ports at new))
ports_among [] at port new more is longer = absurd cc
ports_among {File} (q ∷ ports) zero port new more is longer =
    let same : q ≡ port = cc in
    let its : AreAmong q.reading.landings new.reading.landings =
    subst (λ (r : PortSeen File). AreAmong r.reading.landings new.reading.landings) (sym same)
    (subst (λ (l : List (Landing File)). AreAmong port.reading.landings l) (sym longer) (among_front port.reading.landings more)) in
    among_both q.reading.landings (landings_of ports) new.reading.landings (landings_of ports) its (λ k read stands. (k, stands))
ports_among (q ∷ ports) (suc at) port new more is longer =
    among_both q.reading.landings (landings_of ports) q.reading.landings (landings_of (set ports at new)) (λ k read stands. (k, stands)) (ports_among ports at port new more is longer)

none_in_among : {File : Type 0} (s : RowDatabase) (landed after : List (Landing File)) → AreAmong landed after → NoneForgedIn s after → NoneForgedIn s landed
none_in_among s landed after among none at table place chunk stands has pages heap page bytes is k read stands_read =
    let there = among k read stands_read in none at table place chunk stands has pages heap page bytes is there.0 read there.1

-- the content of the shorter history is known over fewer reads
pub known_fewer : {File : Type 0} (tells : Bool) (s : Script) (history longer : List Entry) (landed after : List (Landing File)) → AreAmong landed after
    → ((m : ℕ) → m ≤ length history → database_after s longer m ≡ database_after s history m) → Known tells s longer after → Known tells s history landed
known_fewer tells s history longer landed after among kept known =
    elim known [
      | inl told ↦ inl told
      | inr none ↦ inr (λ n. let there = is_at s history longer n kept in
          none_in_among (database_after s history n) landed after among (subst (λ (d : RowDatabase). NoneForgedIn d after) there.same (none there.at)))
    ]

-- so is that of one of its databases
pub known_at : {File : Type 0} (tells : Bool) (s : Script) (now : RowDatabase) (longer : List Entry) (n : ℕ) (landed after : List (Landing File)) → AreAmong landed after
    → now ≡ database_after s longer n → Known tells s longer after → DatabaseIsKnown tells now landed
known_at tells s now longer n landed after among is known =
    elim known [
      | inl told ↦ inl told
      | inr none ↦ inr (none_in_among now landed after among (subst (λ (d : RowDatabase). NoneForgedIn d after) (sym is) (none n)))
    ]
