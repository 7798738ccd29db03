-- Histories that grow, and the replies of one session: what holds whatever the script's sessions are.
use Rattle.std.proofs.Common.{◌≡◌, ◌⊎◌, ℕ, zero, suc, ◌+◌, ◌<◌, ◌≤◌, List, [], ◌∷◌, ◌++◌, length, Some, inl, inr, refl, subst, arith, true, false, eq-eqb, add-one}
use Rattle.std.specs.List.{slice_get}
use Rattle.std.proofs.lemmas.Option.{slice_get_within}
use Rattle.std.proofs.lemmas.List.{take-append-le}
use Rattle.std.proofs.Math.Seq.{take-length}
use Rattle.std.proofs.lemmas.List.Sums.{fold-append}
use Rattle.hv_row.specs.Schema.{same_name}
use Rattle.hv_model.specs.declared.script.Statement.{Statement}
use Rattle.hv_model.specs.declared.script.Script.{Script}
use Rattle.hv_model.specs.declared.catalogue.Entry.{Entry}
use Rattle.hv_model.specs.declared.reply.Reply.{Reply}
use Rattle.hv_model.specs.declared.reply.Reply.TheVariants.{Done, Rows, Refused, Failed}
use Rattle.hv_model.specs.Database.{empty_database}
use Rattle.hv_model.specs.Command.{is_named, after_entry, database_after, entry_at}
use Rattle.hv_model.specs.Legal.{number_of, is_done, Names, FollowsNumber}
use Rattle.hv_model.proofs.Places.{slice_get-more, slice_get-front, slice_get-last}

-- a name is the same as itself
pub same_name-refl : (name : List ℕ) → same_name name name ≡ true
same_name-refl [] = refl
same_name-refl (b ∷ bs) = rw (eq-eqb b b refl) (same_name-refl bs)

-- an entry that names a statement passes the test
pub named : (e : Entry) (x : Statement) → Names e x → is_named e x ≡ true
named e x n = rw (n.session, n.number) (rw (same_name-refl x.session) (eq-eqb x.number x.number refl))

-- an earlier database is what it was
pub database_after-longer : (s : Script) (history more : List Entry) (n : ℕ) → n ≤ length history
    → database_after s (history ++ more) n ≡ database_after s history n
database_after-longer s history more n le = rw (take-append-le n history more le) refl

pub database_after-kept : (s : Script) (history : List Entry) (e : Entry) (n : ℕ) → n ≤ length history
    → database_after s (history ++ e ∷ []) n ≡ database_after s history n
database_after-kept s history e n le = database_after-longer s history (e ∷ []) n le

-- the database behind one more entry
pub database_after-more : (s : Script) (history : List Entry) (e : Entry) → database_after s (history ++ e ∷ []) (length (history ++ e ∷ []))
    ≡ after_entry (λ rows. rows) s (database_after s history (length history)) e
database_after-more s history e =
    rw (take-length (history ++ e ∷ []), take-length history, fold-append (after_entry (λ rows. rows) s) empty_database history (e ∷ [])) refl

-- an entry of a history that is one longer stood there before, or is the last
pub record IsOldEntry (history : List Entry) (n : ℕ) (f : Entry) : Type 0 where
  pub above : 0 < n
  pub within : n ≤ length history
  pub stands : entry_at history n ≡ Some f

pub record IsLastEntry (history : List Entry) (e : Entry) (n : ℕ) (f : Entry) : Type 0 where
  pub at : n ≡ length history + 1
  pub same : e ≡ f

pub entry_at-more : (history : List Entry) (e : Entry) (n : ℕ) (f : Entry) → entry_at (history ++ e ∷ []) n ≡ Some f → IsOldEntry history n f ⊎ IsLastEntry history e n f
entry_at-more history e zero f at = absurd (cc)
entry_at-more history e (suc n) f at =
    elim (slice_get-more history e n f at) [
      | inl old ↦ inl (record { above = omega arith; within = (let h : n < length history = old.below in omega arith); stands = old.stands })
      | inr last ↦ inr (record { at = (let h : n ≡ length history = last.at in omega arith); same = last.same })
    ]

pub entry_at-longer : (history more : List Entry) (n : ℕ) (f : Entry) → entry_at history n ≡ Some f → entry_at (history ++ more) n ≡ Some f
entry_at-longer history more zero f at = absurd (cc)
entry_at-longer history more (suc n) f at = slice_get-front history more n f at

pub entry_at-kept : (history : List Entry) (e : Entry) (n : ℕ) (f : Entry) → entry_at history n ≡ Some f → entry_at (history ++ e ∷ []) n ≡ Some f
entry_at-kept history e n f at = entry_at-longer history (e ∷ []) n f at

-- an entry's number is from 1 to the length
pub entry_at-within : (history : List Entry) (n : ℕ) (f : Entry) → entry_at history n ≡ Some f → (0 < n) × (n ≤ length history)
entry_at-within history zero f at = absurd (cc)
entry_at-within history (suc n) f at = (omega arith, let below : n < length history = slice_get_within history n f at in omega arith)

pub entry_at-last : (history : List Entry) (e : Entry) (n : ℕ) → n ≡ length history + 1 → entry_at (history ++ e ∷ []) n ≡ Some e
entry_at-last history e n is = rw is (rw add-one (slice_get-last history e))

-- a reply that isn't Done, with a number not below n, may follow n
pub follows : (n : ℕ) (r : Reply) → is_done r ≡ false → n ≤ number_of r → FollowsNumber n r
follows n (Done at what) not_done le = absurd (cc)
follows n (Rows at rows) not_done le = le
follows n (Refused at cause) not_done le = le
follows n (Failed at cause) not_done le = le

-- one more reply along the session, with a number that follows each earlier one
pub along_more : (rs : List Reply) (r : Reply) (most : ℕ)
    → ((j k : ℕ) (p q : Reply) → j < k → slice_get rs j ≡ Some p → slice_get rs k ≡ Some q → FollowsNumber (number_of p) q)
    → ((k : ℕ) (p : Reply) → slice_get rs k ≡ Some p → number_of p ≤ most)
    → ((n : ℕ) → n ≤ most → FollowsNumber n r)
    → (j k : ℕ) (p q : Reply) → j < k → slice_get (rs ++ r ∷ []) j ≡ Some p → slice_get (rs ++ r ∷ []) k ≡ Some q → FollowsNumber (number_of p) q
along_more rs r most along within next j k p q below at_j at_k =
    elim (slice_get-more rs r j p at_j) [
      | inl first ↦ elim (slice_get-more rs r k q at_k) [
        | inl second ↦ along j k p q below first.stands second.stands
        | inr last ↦ subst (λ (s : Reply). FollowsNumber (number_of p) s) last.same (next (number_of p) (within j p first.stands))
      ]
      | inr first ↦ elim (slice_get-more rs r k q at_k) [
        | inl second ↦ absurd (let a : j ≡ length rs = first.at in let b : k < length rs = second.below in omega arith)
        | inr last ↦ absurd (let a : j ≡ length rs = first.at in let b : k ≡ length rs = last.at in omega arith)
      ]
    ]

-- a place has one statement
pub same_at : (xs : List Statement) (n k : ℕ) (x y : Statement) → slice_get xs n ≡ Some x → slice_get xs k ≡ Some y → k ≡ n → x ≡ y
same_at xs n k x y at_n at_k same = let e : slice_get xs n ≡ Some y = subst (λ (m : ℕ). slice_get xs m ≡ Some y) same at_k in cc

-- an empty history has no entry
pub no_entry : (n : ℕ) (e : Entry) → entry_at [] n ≡ Some e → ⊥
no_entry zero e at = cc
no_entry (suc n) e at = cc
