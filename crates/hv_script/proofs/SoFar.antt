-- What was read of a script so far: its sessions stay with the counts of their statements.
use Rattle.std.proofs.Common.{◌≡◌, ◌≢◌, ◌⊎◌, ℕ, zero, suc, ◌+◌, ◌<◌, ◌≤◌, true, false, not, cond, List, [], ◌∷◌, ◌++◌, length, get_or, set, count_by, Some, None, inl, inr, refl, ap, sym, ◌∙◌, subst, arith, length-append, length-set, lt-ltb}
use Rattle.std.specs.Prelude.{codes, nat_lt}
use Rattle.std.specs.List.{slice_get, position, position_or_len}
use Rattle.std.proofs.lemmas.Bool.{cases_lt, cases_eq, false_from_ne_true}
use Rattle.std.proofs.lemmas.List.Quantifiers.{position-Some}
use Rattle.std.proofs.lemmas.List.Sums.{prefix_len_passes, sum_by_push, count_by-le-length}
use Rattle.std.proofs.lemmas.Option.{slice_get_within, slice_get-get_or, get_or_from_slice_get}
use Rattle.hv_row.specs.Schema.{same_name}
use Rattle.hv_model.specs.declared.script.Statement.{Statement}
use Rattle.hv_model.specs.Command.{statements}
use Rattle.hv_model.specs.Script.{most_sessions, most_statements, Cut, Placed, placed_first, script_of, is_session, with_session, set_session, end_phase, count_read, next_statement, add_statement, IsWithin}
use Rattle.hv_model.proofs.Histories.{same_name-refl}
use Rattle.hv_model.proofs.Places.{slice_get-more, slice_get-kept, slice_get-last, slice_get-set_same, slice_get-set_other, count_none}
use Rattle.hv_model.proofs.SessionScripts.{same_name-true}
use Rattle.hv_model.proofs.ScriptPlaced.{statements_ended, statements_added, count_added}
use Rattle.hv_model.proofs.ScriptSessions.{AreDistinct, place_of, place_found, IsSound, sound_by}
use Rattle.hv_script.specs.declared.so_far.Member.{Member}
use Rattle.hv_script.specs.declared.so_far.SoFar.{SoFar}
use Rattle.hv_script.specs.SoFar.{WasRead, placed_of, IsKept, Stands}

-- the place of a name that is found
pub found_name : (names : List (List ℕ)) (name : List ℕ) (i : ℕ) → position (λ other. same_name other name) names ≡ Some i → slice_get names i ≡ Some name
found_name names name i e =
    let first = position-Some (λ other. same_name other name) names i [] e in
    slice_get-get_or names i [] first.0 ∙ ap (λ (n : List ℕ). Some n) (same_name-true (get_or names i []) name first.1)

-- where none is found, the name isn't among them
past_all : (first most : ℕ) → cond (nat_lt first most) (Some first) None ≡ None → (first < most) ⊎ (most ≤ first) → most ≤ first
past_all first most none (inl less) = (let some : Some first ≡ None = subst (λ v. cond v (Some first) None ≡ None) (lt-ltb first most less) none in absurd cc)
past_all first most none (inr past) = past

pub no_name : (names : List (List ℕ)) (name : List ℕ) → position (λ other. same_name other name) names ≡ None → is_session names name ≡ false
no_name names name none = false_from_ne_true (is_session names name) (λ yes.
    let at = place_of names name yes in
    let within : at.place < length names = slice_get_within names at.place name at.stands in
    let first = position_or_len (λ other. same_name other name) names in
    let past : length names ≤ first = past_all first (length names) none (cases_lt first (length names)) in
    let differs : not (same_name (get_or names at.place []) name) ≡ true = prefix_len_passes (λ other. not (same_name other name)) names at.place [] (omega arith) in
    let is : get_or names at.place [] ≡ name = get_or_from_slice_get names at.place name [] at.stands in
    let same : not (same_name name name) ≡ true = rw is at differs in
    let both : not true ≡ true = rw same_name-refl at same in
    cc)

-- a session and the count of its statements
abbrev member_of : List ℕ → ℕ → Member
member_of name count = record { name = name; count = count }

abbrev AreMembers : List (List ℕ) → List Member → (List ℕ → ℕ) → Type 0
AreMembers names members count = (i : ℕ) (name : List ℕ) → slice_get names i ≡ Some name → slice_get members i ≡ Some (member_of name (count name))

members_more : (names : List (List ℕ)) (members : List Member) (count : List ℕ → ℕ) (name : List ℕ) → AreMembers names members count → length members ≡ length names → count name ≡ 0
    → AreMembers (names ++ name ∷ []) (members ++ member_of name 0 ∷ []) count
members_more names members count name each as_many none i other at =
    elim (slice_get-more names name i other at) [
      | inl old ↦ slice_get-kept members (member_of name 0) i (member_of other (count other)) (each i other old.stands)
      | inr last ↦
          let here : i ≡ length members = last.at ∙ sym as_many in
          ap (λ k. slice_get (members ++ member_of name 0 ∷ []) k) here ∙ slice_get-last members (member_of name 0)
          ∙ ap (λ k. Some (member_of name k)) (sym none) ∙ ap (λ (n : List ℕ). Some (member_of n (count n))) last.same
    ]

-- behind a text that sets the session to one that was named
pub old_stands : (it new : SoFar) (name : List ℕ) → IsKept it → slice_get it.names new.at ≡ Some name → new.names ≡ it.names → new.members ≡ it.members → new.ended ≡ it.ended → new.phase ≡ it.phase
    → new.count ≡ it.count → Stands new (set_session (placed_of it) name)
old_stands it new name kept at names members ended phase count =
    let is : get_or it.names new.at [] ≡ name = get_or_from_slice_get it.names new.at name [] at in
    let among : with_session it.names name ≡ it.names = rw (place_found it.names name new.at at) refl in
    record {
      kept = record {
        present = rw (names, is) at;
        each_member = rw (names, members, ended, phase) kept.each_member;
        as_many = rw (names, members) kept.as_many;
        counted = rw (ended, phase, count) kept.counted;
        within = rw (names, ended, phase) (record { sessions = kept.within.sessions; all_statements = kept.within.all_statements });
      };
      is = rw (names, ended, phase, is, among) refl;
    }

-- a name that isn't among those of sessions has no statement
none_read : (s : Placed) (name : List ℕ) → WasRead s → is_session s.sessions name ≡ false → count_read s name ≡ 0
none_read s name read other =
    count_none (λ (x : Statement). same_name x.session name) (statements (script_of s)) (λ k x at.
    false_from_ne_true (same_name x.session name) (λ same.
    let sound : IsSound s = subst (λ z. IsSound z) (sym read.1) (sound_by read.0) in
    let p = sound.named k x at in
    let is : x.session ≡ name = same_name-true x.session name same in
    let among : is_session s.sessions name ≡ true = place_found s.sessions name p.place (p.stands ∙ ap (λ (n : List ℕ). Some n) is) in
    let both : true ≡ false = sym among ∙ other in
    cc))

-- behind a text that sets it to a new one
pub new_stands : (it new : SoFar) (name : List ℕ) → IsKept it → WasRead (placed_of it) → is_session it.names name ≡ false → length it.names ≢ most_sessions
    → new.names ≡ it.names ++ name ∷ [] → new.members.items ≡ it.members.items ++ member_of name 0 ∷ [] → new.at ≡ length it.names
    → new.ended ≡ it.ended → new.phase ≡ it.phase → new.count ≡ it.count → Stands new (set_session (placed_of it) name)
new_stands it new name kept read other room names members at ended phase count =
    let s = placed_of it in
    let last : slice_get (it.names ++ name ∷ []) (length it.names) ≡ Some name = slice_get-last it.names name in
    let is : get_or (it.names ++ name ∷ []) (length it.names) [] ≡ name = get_or_from_slice_get (it.names ++ name ∷ []) (length it.names) name [] last in
    let grown : with_session it.names name ≡ it.names ++ name ∷ [] = rw other refl in
    let n : length (it.names ++ name ∷ []) ≡ length it.names + 1 = length-append it.names (name ∷ []) in
    let m : length (it.members.items ++ member_of name 0 ∷ []) ≡ length it.members.items + 1 = length-append it.members.items (member_of name 0 ∷ []) in
    let as_many : length it.members.items ≡ length it.names = kept.as_many in
    let few : length it.names ≤ 64 = kept.within.sessions in
    record {
      kept = record {
        present = rw (names, at, is) last;
        each_member = rw (names, members, ended, phase) (members_more it.names it.members.items (λ other. count_read s other) name kept.each_member as_many (none_read s name read other));
        as_many = rw (names, members) (omega arith);
        counted = rw (ended, phase, count) kept.counted;
        within = rw (names, ended, phase) (record { sessions = omega arith; all_statements = kept.within.all_statements });
      };
      is = rw (names, at, ended, phase, is, grown) refl;
    }

-- behind the end of a phase
pub end_stands : (it new : SoFar) → IsKept it → new.names ≡ it.names → new.members ≡ it.members → new.at ≡ it.at → new.ended ≡ it.ended ++ it.phase ∷ [] → new.phase ≡ []
    → new.count ≡ it.count → Stands new (end_phase (placed_of it))
end_stands it new kept names members at ended phase count =
    let s = placed_of it in
    let same = statements_ended s in
    let n : length (statements (script_of (end_phase s))) ≡ length (statements (script_of s)) = ap (λ (xs : List Statement). length xs) same in
    record {
      kept = record {
        present = rw (names, at) kept.present;
        each_member = rw (names, members, ended, phase) (λ i name stands. kept.each_member i name stands
            ∙ ap (λ (xs : List Statement). Some (member_of name (count_by (λ x. same_name x.session name) xs))) (sym same));
        as_many = rw (names, members) kept.as_many;
        counted = rw (ended, phase, count) (kept.counted ∙ sym n);
        within = rw (names, ended, phase) (record { sessions = kept.within.sessions; all_statements = (let few : length (statements (script_of s)) ≤ 1000000 = kept.within.all_statements in omega arith) });
      };
      is = rw (names, at, ended, phase) refl;
    }

-- one more statement of a session
members_added : (names : List (List ℕ)) (members : List Member) (count more : List ℕ → ℕ) (at : ℕ) (name : List ℕ) → AreMembers names members count → length members ≡ length names
    → slice_get names at ≡ Some name → more name ≡ count name + 1 → ((other : List ℕ) → (i : ℕ) → slice_get names i ≡ Some other → i ≢ at → more other ≡ count other)
    → AreMembers names (set members at (member_of name (count name + 1))) more
members_added names members count more at name each as_many stands own others i other found =
    let within : at < length members = (let w : at < length names = slice_get_within names at name stands in omega arith) in
    elim (cases_eq i at) [
      | inl here ↦
          let both : Some name ≡ Some other = sym stands ∙ ap (λ k. slice_get names k) (sym here) ∙ found in
          let is : name ≡ other = cc in
          ap (λ k. slice_get (set members at (member_of name (count name + 1))) k) here ∙ slice_get-set_same members at (member_of name (count name + 1)) within
          ∙ ap (λ k. Some (member_of name k)) (sym own) ∙ ap (λ (n : List ℕ). Some (member_of n (more n))) is
      | inr differs ↦
          slice_get-set_other members at i (member_of name (count name + 1)) differs ∙ each i other found
          ∙ ap (λ k. Some (member_of other k)) (sym (others other i found differs))
    ]

-- what a statement adds to the count of a session
count_one : (s : Placed) (cut : Cut) (name : List ℕ) → count_read (add_statement s cut) name ≡ count_read s name + cond (same_name s.current name) 1 0
count_one s cut name =
    ap (λ (xs : List Statement). count_by (λ x. same_name x.session name) xs) (statements_added s cut)
    ∙ sum_by_push (λ (x : Statement). cond (same_name x.session name) 1 0) (statements (script_of s)) (next_statement s cut)

count_own : (s : Placed) (cut : Cut) → count_read (add_statement s cut) s.current ≡ count_read s s.current + 1
count_own s cut = count_one s cut s.current ∙ ap (λ v. count_read s s.current + cond v 1 0) (same_name-refl s.current)

count_other : (s : Placed) (cut : Cut) (at i : ℕ) (name : List ℕ) → AreDistinct s.sessions → slice_get s.sessions at ≡ Some s.current → slice_get s.sessions i ≡ Some name → i ≢ at
    → count_read (add_statement s cut) name ≡ count_read s name
count_other s cut at i name distinct present found differs =
    let other : same_name s.current name ≡ false = false_from_ne_true (same_name s.current name) (λ same.
    let is : s.current ≡ name = same_name-true s.current name same in
    differs (distinct i at name found (present ∙ ap (λ (n : List ℕ). Some n) is))) in
    count_one s cut name ∙ ap (λ v. count_read s name + cond v 1 0) other ∙ omega arith

-- the session of what follows, and how many statements it has
pub present_member : (it : SoFar) (m d : Member) → IsKept it → m ≡ get_or it.members.items it.at d → m ≡ member_of (placed_of it).current (count_read (placed_of it) (placed_of it).current)
present_member it m d kept is = is ∙ get_or_from_slice_get it.members.items it.at _ d (kept.each_member it.at (placed_of it).current kept.present)

-- behind a statement
pub added_stands : (it new : SoFar) (cut : Cut) → IsKept it → WasRead (placed_of it) → it.count ≢ most_statements → new.names ≡ it.names
    → new.members.items ≡ set it.members.items it.at (member_of (placed_of it).current (count_read (placed_of it) (placed_of it).current + 1)) → new.at ≡ it.at
    → new.ended ≡ it.ended → new.phase ≡ it.phase ++ next_statement (placed_of it) cut ∷ [] → new.count ≡ it.count + 1 → Stands new (add_statement (placed_of it) cut)
added_stands it new cut kept read room names members at ended phase count =
    let s = placed_of it in
    let sound : IsSound s = subst (λ z. IsSound z) (sym read.1) (sound_by read.0) in
    let n : length (statements (script_of (add_statement s cut))) ≡ length (statements (script_of s)) + 1 = count_added s cut in
    let so_many : it.count ≡ length (statements (script_of s)) = kept.counted in
    let few : length (statements (script_of s)) ≤ 1000000 = kept.within.all_statements in
    let each = members_added it.names it.members.items (λ name. count_read s name) (λ name. count_read (add_statement s cut) name) it.at s.current kept.each_member kept.as_many kept.present
    (count_own s cut) (λ other i found differs. count_other s cut it.at i other sound.distinct kept.present found differs) in
    record {
      kept = record {
        present = rw (names, at) kept.present;
        each_member = rw (names, members, ended, phase) each;
        as_many = rw (names, members) (length-set it.members.items it.at _ ∙ kept.as_many);
        counted = rw (ended, phase, count) (omega arith);
        within = rw (names, ended, phase) (record { sessions = kept.within.sessions; all_statements = omega arith });
      };
      is = rw (names, at, ended, phase) refl;
    }

-- before the first text
pub first_stands : (it : SoFar) → it.names ≡ codes "main" ∷ [] → it.members.items ≡ member_of (codes "main") 0 ∷ [] → it.at ≡ 0 → it.ended ≡ [] → it.phase ≡ [] → it.count ≡ 0 → Stands it placed_first
first_stands it names members at ended phase count = record {
  kept = record {
    present = rw (names, at) refl;
    each_member = rw (names, members, ended, phase) one;
    as_many = rw (names, members) refl;
    counted = rw (ended, phase, count) refl;
    within = rw (names, ended, phase) (record { sessions = omega arith; all_statements = omega arith });
  };
  is = rw (names, at, ended, phase) refl;
}
  where
    one : AreMembers (codes "main" ∷ []) (member_of (codes "main") 0 ∷ []) (λ name. 0)
    one zero name found = (let is : codes "main" ≡ name = cc in ap (λ (n : List ℕ). Some (member_of n 0)) is)
    one (suc i) name found = absurd cc

-- the statement that is put behind the others
pub is_next : (s : Placed) (cut : Cut) (x : Statement) → x.session ≡ s.current → x.number ≡ count_read s s.current + 1 → x.text ≡ cut.text → x.lines ≡ cut.lines → x ≡ next_statement s cut
is_next s cut x session number text lines =
    ap (λ z. record { session = z; number = x.number; text = x.text; lines = x.lines }) session
    ∙ ap (λ z. record { session = s.current; number = z; text = x.text; lines = x.lines }) number
    ∙ ap (λ z. record { session = s.current; number = count_read s s.current + 1; text = z; lines = x.lines }) text
    ∙ ap (λ z. record { session = s.current; number = count_read s s.current + 1; text = cut.text; lines = z }) lines

-- a session has no more statements than a script
pub few_read : (s : Placed) (name : List ℕ) → IsWithin s → count_read s name ≤ most_statements
few_read s name w =
    let few : length (statements (script_of s)) ≤ 1000000 = w.all_statements in
    omega (arith, count_by-le-length (λ (x : Statement). same_name x.session name) (statements (script_of s)))
