-- What the failures so far stand on stands on, and holds of one more reply.
use Rattle.std.proofs.Common.{◌≡◌, ◌⊎◌, ℕ, ◌+◌, ◌<◌, ◌≤◌, Bool, true, false, cond, List, [], ◌∷◌, ◌++◌, length, Option, Some, None, inl, inr, refl, sym, ap, ◌∙◌, subst, arith, count_by, eqb-true, eq-eqb, le_refl, append-nil}
use Rattle.std.specs.Prelude.{◌==◌}
use Rattle.std.specs.List.{slice_get}
use Rattle.std.proofs.lemmas.Bool.{cases_lt}
use Rattle.std.proofs.lemmas.Option.{slice_get_within}
use Rattle.std.proofs.lemmas.List.Sums.{fold-append}
use Rattle.hv_io.specs.Counts.{Rose}
use Rattle.hv_dev.specs.Reading.{Reading, Landing}
use Rattle.hv_model.specs.declared.script.Statement.{Statement}
use Rattle.hv_model.specs.declared.script.Script.{Script}
use Rattle.hv_model.specs.Database.{RowDatabase}
use Rattle.hv_model.specs.declared.catalogue.Entry.{Entry}
use Rattle.hv_model.specs.declared.reply.Why.{Why}
use Rattle.hv_model.specs.declared.reply.Why.TheVariants.{Digest, Form}
use Rattle.hv_model.specs.declared.reply.Failure.TheVariants.{Read, Write, Damaged, Memory}
use Rattle.hv_model.specs.declared.reply.Reply.{Reply}
use Rattle.hv_model.specs.declared.reply.Reply.TheVariants.{Done, Rows, Refused, Failed}
use Rattle.hv_model.specs.Command.{database_after}
use Rattle.hv_model.specs.Legal.{number_of}
use Rattle.hv_model.specs.Settled.{Settles}
use Rattle.hv_model.proofs.Places.{slice_get-more, slice_get-last}
use Rattle.hv_model.proofs.Histories.{database_after-kept}
use Rattle.hv_world.specs.Reads.{PortSeen, GoesOn, IsStill, fresh_port}
use Rattle.hv_world.specs.Damage.{is_digest_why, Serves, StandsOn, AllServe, RepliedBy}
use Rattle.hv_world.specs.Causes.{RoseBy, RoseWith, is_read, is_write, is_digest, failed_so, failed_so_option, DamagesStand, CausedBy}
use Rattle.hv_world.proofs.HeldTables.{file_longer}
use Rattle.hv_world.proofs.Landed.{get_front, get_longer}
use Rattle.hv_world.proofs.Knowing.{is_at}

-- the count with one more
pub count_more : {X : Type 0} (f : X → Bool) (xs : List X) (x : X) → count_by f (xs ++ x ∷ []) ≡ count_by f xs + cond (f x) 1 0
count_more f xs x = rw (fold-append (λ (a : ℕ) (y : _). a + cond (f y) 1 0) 0 xs (x ∷ [])) refl

-- a count that rose so often, and once more
pub rose_once : (n start before now : ℕ) → RoseBy n start before → Rose before now → RoseBy (n + 1) start now
rose_once n start before now by rose = record { falls_never = omega (arith, by.falls_never, rose.falls_never); risen = omega (arith, by.risen, rose.risen, rose.falls_never) }

-- and one that rose so often and didn't fall
pub rose_still : (n start before now : ℕ) → RoseBy n start before → before ≤ now → RoseBy n start now
rose_still n start before now by le = record { falls_never = omega (arith, by.falls_never); risen = omega (arith, by.risen) }

-- with one more reply that is of the kind only where the count rose
pub rose_next : (kind : Reply → Bool) (rs : List Reply) (r : Reply) (before now : ℕ) → RoseBy (count_by kind rs) 0 before → before ≤ now → (kind r ≡ true → Rose before now)
    → RoseBy (count_by kind (rs ++ r ∷ [])) 0 now
rose_next kind rs r before now by le rose =
    subst (λ (n : ℕ). RoseBy n 0 now) (sym (count_more kind rs r))
    (elim (kind r) as (λ b. (kind r ≡ b) → RoseBy (count_by kind rs + cond b 1 0) 0 now) [
      | true ↦ (λ e. rose_once (count_by kind rs) 0 before now by (rose e))
      | false ↦ (λ e. rose_still (count_by kind rs + 0) 0 before now (subst (λ (n : ℕ). RoseBy n 0 before) (omega arith) by) le)
    ] refl)

-- a count that rose with the replies of a kind and with them alone, with one more
rose_with_next : (kind : Reply → Bool) (rs : List Reply) (r : Reply) (before now : ℕ) → RoseWith (count_by kind rs) 0 before → before ≤ now → (kind r ≡ true → Rose before now) → (kind r ≡ false → now ≡ before)
    → RoseWith (count_by kind (rs ++ r ∷ [])) 0 now
rose_with_next kind rs r before now with_them le rose still = record {
  by = rose_next kind rs r before now with_them.by le rose;
  still = (λ none. elim (kind r) as (λ b. (kind r ≡ b) → now ≡ 0) [
    | true ↦ (λ e. absurd (let more : count_by kind (rs ++ r ∷ []) ≡ count_by kind rs + cond {A = ℕ} (kind r) 1 0 = count_more kind rs r in
        let one : cond {A = ℕ} (kind r) 1 0 ≡ 1 = rw e refl in omega (arith, more, one, none)))
    | false ↦ (λ e. still e ∙ with_them.still (let more : count_by kind (rs ++ r ∷ []) ≡ count_by kind rs + cond {A = ℕ} (kind r) 1 0 = count_more kind rs r in omega (arith, more, none)))
  ] refl);
}

-- a reply of a failed read has its cause, and so has one of a failed write; each other reply leaves the count as it was
pub read_rose : {File : Type 0} (tells : Bool) (s : RowDatabase) (files : List File) (before now : PortSeen File) (r : Reply) → RepliedBy tells s files before now r → failed_so is_read r ≡ true
    → Rose before.reading.read_faults now.reading.read_faults
read_rose tells s files before now (Done at what) by e = absurd cc
read_rose tells s files before now (Rows at rows) by e = absurd cc
read_rose tells s files before now (Refused at cause) by e = absurd cc
read_rose tells s files before now (Failed at Read) by e = by.0
read_rose tells s files before now (Failed at Write) by e = absurd cc
read_rose tells s files before now (Failed at (Damaged chunk page why)) by e = absurd cc
read_rose tells s files before now (Failed at Memory) by e = absurd cc

read_still : {File : Type 0} (tells : Bool) (s : RowDatabase) (files : List File) (before now : PortSeen File) (r : Reply) → RepliedBy tells s files before now r → failed_so is_read r ≡ false
    → now.reading.read_faults ≡ before.reading.read_faults
read_still tells s files before now (Done at what) by e = by.0.reads
read_still tells s files before now (Rows at rows) by e = by.0.reads
read_still tells s files before now (Refused at cause) by e = by.0.reads
read_still tells s files before now (Failed at Read) by e = absurd cc
read_still tells s files before now (Failed at Write) by e = ap (λ r. r.read_faults) by.1
read_still tells s files before now (Failed at (Damaged chunk page why)) by e = by.0.reads
read_still tells s files before now (Failed at Memory) by e = by.0.reads

pub write_rose : {File : Type 0} (tells : Bool) (s : RowDatabase) (files : List File) (before now : PortSeen File) (r : Reply) → RepliedBy tells s files before now r → failed_so is_write r ≡ true
    → Rose before.write_faults now.write_faults
write_rose tells s files before now (Done at what) by e = absurd cc
write_rose tells s files before now (Rows at rows) by e = absurd cc
write_rose tells s files before now (Refused at cause) by e = absurd cc
write_rose tells s files before now (Failed at Read) by e = absurd cc
write_rose tells s files before now (Failed at Write) by e = by.0
write_rose tells s files before now (Failed at (Damaged chunk page why)) by e = absurd cc
write_rose tells s files before now (Failed at Memory) by e = absurd cc

write_still : {File : Type 0} (tells : Bool) (s : RowDatabase) (files : List File) (before now : PortSeen File) (r : Reply) → RepliedBy tells s files before now r → failed_so is_write r ≡ false → now.write_faults ≡ before.write_faults
write_still tells s files before now (Done at what) by e = by.0.writes
write_still tells s files before now (Rows at rows) by e = by.0.writes
write_still tells s files before now (Refused at cause) by e = by.0.writes
write_still tells s files before now (Failed at Read) by e = by.1
write_still tells s files before now (Failed at Write) by e = absurd cc
write_still tells s files before now (Failed at (Damaged chunk page why)) by e = by.0.writes
write_still tells s files before now (Failed at Memory) by e = by.0.writes

-- ---- the reads that damage stands on

-- over more files and more reads
stands_longer : {File : Type 0} (tells : Bool) (s : RowDatabase) (files new : List File) (landed more after : List (Landing File)) (place number page : ℕ) (why : Why) → after ≡ landed ++ more
    → StandsOn tells s files landed place number page why → StandsOn tells s (files ++ new) after place number page why
stands_longer tells s files new landed more after place number page why is on = record {
  untold = on.untold;
  schema = on.schema;
  written = on.written;
  was = on.was;
  read = on.read;
  stands = rw is (get_longer landed more place on.read on.stands);
  of_file = file_longer files new number on.read.file on.of_file;
  of_page = on.of_page;
  because = on.because;
}

pub serves_longer : {File : Type 0} (s : RowDatabase) (files new : List File) (read : Landing File) → Serves s files read → Serves s (files ++ new) read
serves_longer s files new read serves = record {
  number = serves.number;
  schema = serves.schema;
  written = serves.written;
  was = serves.was;
  of_file = file_longer files new serves.number read.file serves.of_file;
  digest = serves.digest;
}

-- a reply of a page of another digest
pub record IsDigestReply (o : Option Reply) : Type 0 where
  pub n : ℕ
  pub number : ℕ
  pub page : ℕ
  pub why : Why
  pub is : o ≡ Some (Failed n (Damaged number page why))

pub digest_reply : (o : Option Reply) → failed_so_option is_digest o ≡ true → IsDigestReply o
digest_reply None e = absurd cc
digest_reply (Some (Done at what)) e = absurd cc
digest_reply (Some (Rows at rows)) e = absurd cc
digest_reply (Some (Refused at cause)) e = absurd cc
digest_reply (Some (Failed at Read)) e = absurd cc
digest_reply (Some (Failed at Write)) e = absurd cc
digest_reply (Some (Failed at (Damaged chunk page (Digest recorded found)))) e = record { n = at; number = chunk; page = page; why = Digest recorded found; is = refl }
digest_reply (Some (Failed at (Damaged chunk page (Form byte)))) e = absurd cc
digest_reply (Some (Failed at Memory)) e = absurd cc

-- the place of the read on which the k-th reply stands, the last one on a new read
abbrev place_with : (ℕ → ℕ) → ℕ → ℕ → ℕ → ℕ
place_with place last new k = cond (k == last) new (place k)

place_old : (place : ℕ → ℕ) (last new k : ℕ) → k < last → place_with place last new k ≡ place k
place_old place last new k below = elim (k == last) as (λ b. (k == last) ≡ b → cond b new (place k) ≡ place k) [
  | true ↦ (λ e. absurd (let same : k ≡ last = eqb-true k last e in omega arith))
  | false ↦ (λ e. refl)
] refl

place_new : (place : ℕ → ℕ) (last new k : ℕ) → k ≡ last → place_with place last new k ≡ new
place_new place last new k same = rw (eq-eqb k last same) refl

-- each read that landed behind some serves a database of the history, or the reply tells it
abbrev LastTold : {File : Type 0} → Script → List Entry → Reply → List File → List (Landing File) → List (Landing File) → ℕ → Type 0
LastTold {File} s longer r files landed after new =
    (j : ℕ) (read : Landing File) → length landed ≤ j → slice_get after j ≡ Some read → ((n : ℕ) × Serves (database_after s longer n) files read) ⊎ ((j ≡ new) × (failed_so is_digest r ≡ true))

-- with one more reply, which stands on a new read where it is one of damage
pub damage_next : {File : Type 0} (tells : Bool) (s : Script) (history longer : List Entry) (rs : List Reply) (r : Reply) (files fresh : List File) (landed more after : List (Landing File)) (new : ℕ)
    → DamagesStand tells s history rs files landed
    → ((k : ℕ) (q : Reply) → slice_get rs k ≡ Some q → number_of q ≤ length history)
    → ((n : ℕ) → n ≤ length history → database_after s longer n ≡ database_after s history n)
    → after ≡ landed ++ more → length landed ≤ new
    → ((n number page : ℕ) (why : Why) → r ≡ Failed n (Damaged number page why) → StandsOn tells (database_after s longer n) (files ++ fresh) after new number page why)
    → LastTold s longer r (files ++ fresh) landed after new
    → DamagesStand tells s longer (rs ++ r ∷ []) (files ++ fresh) after
damage_next {File} tells s history longer rs r files fresh landed more after new old within same is since last told_last =
    let place = place_with old.place (length rs) new in
    let old_place : (k : ℕ) → k < length rs → failed_so_option is_digest (slice_get (rs ++ r ∷ []) k) ≡ true → place k < length landed =
    (λ k below e. let d = digest_reply (slice_get (rs ++ r ∷ []) k) e in
    elim (slice_get-more rs r k (Failed d.n (Damaged d.number d.page d.why)) d.is) [
      | inl had ↦ (let on = old.stands k d.n d.number d.page d.why had.stands in
          let there : old.place k < length landed = slice_get_within landed (old.place k) on.read on.stands in
          subst (λ (p : ℕ). p < length landed) (sym (place_old old.place (length rs) new k below)) there)
      | inr is_last ↦ absurd (let a : k ≡ length rs = is_last.at in omega arith)
    ]) in
    let at : (k : ℕ) → failed_so_option is_digest (slice_get (rs ++ r ∷ []) k) ≡ true → (k < length rs) ⊎ (k ≡ length rs) =
    (λ k e. let d = digest_reply (slice_get (rs ++ r ∷ []) k) e in
    elim (slice_get-more rs r k (Failed d.n (Damaged d.number d.page d.why)) d.is) [ inl had ↦ inl had.below | inr is_last ↦ inr is_last.at ]) in
    let old_digest : (k : ℕ) → k < length rs → failed_so_option is_digest (slice_get (rs ++ r ∷ []) k) ≡ true → failed_so_option is_digest (slice_get rs k) ≡ true =
    (λ k below e. let d = digest_reply (slice_get (rs ++ r ∷ []) k) e in
    elim (slice_get-more rs r k (Failed d.n (Damaged d.number d.page d.why)) d.is) [
      | inl had ↦ rw had.stands (rw d.is at e)
      | inr is_last ↦ absurd (let a : k ≡ length rs = is_last.at in omega arith)
    ]) in
    record {
      place = place;
      stands = (λ k n number page why e. elim (slice_get-more rs r k (Failed n (Damaged number page why)) e) [
        | inl had ↦ (let le : n ≤ length history = within k (Failed n (Damaged number page why)) had.stands in
            rw (place_old old.place (length rs) new k had.below, same n le)
            (stands_longer tells (database_after s history n) files fresh landed more after (old.place k) number page why is (old.stands k n number page why had.stands)))
        | inr is_last ↦ rw (place_new old.place (length rs) new k is_last.at) (last n number page why is_last.same)
      ]);
      distinct = (λ j k e_j e_k places. elim (at j e_j) [
        | inl below_j ↦ elim (at k e_k) [
          | inl below_k ↦ old.distinct j k (old_digest j below_j e_j) (old_digest k below_k e_k)
              (sym (place_old old.place (length rs) new j below_j) ∙ places ∙ place_old old.place (length rs) new k below_k)
          | inr last_k ↦ absurd (let a : place j < length landed = old_place j below_j e_j in let b : place k ≡ new = place_new old.place (length rs) new k last_k in omega (arith, places))
        ]
        | inr last_j ↦ elim (at k e_k) [
          | inl below_k ↦ absurd (let a : place k < length landed = old_place k below_k e_k in let b : place j ≡ new = place_new old.place (length rs) new j last_j in omega (arith, places))
          | inr last_k ↦ last_j ∙ sym last_k
        ]
      ]);
      told = (λ j read stands. elim (cases_lt j (length landed)) [
        | inl below ↦ (let had : slice_get landed j ≡ Some read = sym (get_front landed more j below) ∙ ap (λ (l : List (Landing File)). slice_get l j) (sym is) ∙ stands in
            elim (old.told j read had) [
              | inl serves ↦ (let there = is_at s history longer serves.0 same in
                  inl (there.at, subst (λ (d : RowDatabase). Serves d (files ++ fresh) read) (sym there.same) (serves_longer (database_after s history serves.0) files fresh read serves.1)))
              | inr tells_it ↦ (let d = digest_reply (slice_get rs tells_it.0) tells_it.1 in
                  let k_below : tells_it.0 < length rs = slice_get_within rs tells_it.0 (Failed d.n (Damaged d.number d.page d.why)) d.is in
                  inr (tells_it.0, ap (failed_so_option is_digest) (get_front rs (r ∷ []) tells_it.0 k_below) ∙ tells_it.1, place_old old.place (length rs) new tells_it.0 k_below ∙ tells_it.2))
            ])
        | inr above ↦ elim (told_last j read above stands) [
          | inl serves ↦ inl serves
          | inr tells_it ↦ inr (length rs, ap (failed_so_option is_digest) (slice_get-last rs r) ∙ tells_it.1, place_new old.place (length rs) new (length rs) refl ∙ sym tells_it.0)
        ]
      ]);
    }

-- a history that goes on keeps what was there
pub history_kept : (s : Script) (x : Statement) (max : ℕ) (known : Type 0) (before new : RowDatabase) (history longer : List Entry) (r : Reply) → Settles x max known before history r new longer
    → (n : ℕ) → n ≤ length history → database_after s longer n ≡ database_after s history n
history_kept s x max known before new history longer (Done at what) settles n le = rw settles.is_longer (database_after-kept s history settles.entry n le)
history_kept s x max known before new history longer (Rows at rows) settles n le = rw settles.0.same_history refl
history_kept s x max known before new history longer (Refused at cause) settles n le = rw settles.0.same_history refl
history_kept s x max known before new history longer (Failed at cause) settles n le = rw settles.0.same_history refl

-- a place among what landed that is new where there is none yet
abbrev new_place : {File : Type 0} (tells : Bool) (s : RowDatabase) (files : List File) (before now : PortSeen File) (r : Reply) → RepliedBy tells s files before now r → ℕ
new_place tells s files before now (Done at what) by = length before.reading.landings
new_place tells s files before now (Rows at rows) by = length before.reading.landings
new_place tells s files before now (Refused at cause) by = length before.reading.landings
new_place tells s files before now (Failed at Read) by = length before.reading.landings
new_place tells s files before now (Failed at Write) by = length before.reading.landings
new_place tells s files before now (Failed at (Damaged number page why)) by = by.1.place
new_place tells s files before now (Failed at Memory) by = length before.reading.landings

place_since : {File : Type 0} (tells : Bool) (s : RowDatabase) (files : List File) (before now : PortSeen File) (r : Reply) (by : RepliedBy tells s files before now r) → length before.reading.landings ≤ new_place tells s files before now r by
place_since tells s files before now (Done at what) by = le_refl (length before.reading.landings)
place_since tells s files before now (Rows at rows) by = le_refl (length before.reading.landings)
place_since tells s files before now (Refused at cause) by = le_refl (length before.reading.landings)
place_since tells s files before now (Failed at Read) by = le_refl (length before.reading.landings)
place_since tells s files before now (Failed at Write) by = le_refl (length before.reading.landings)
place_since tells s files before now (Failed at (Damaged number page why)) by = by.1.since
place_since tells s files before now (Failed at Memory) by = le_refl (length before.reading.landings)

-- the last reply, where it is one of damage, stands on a new read
last_stands : {File : Type 0} (tells : Bool) (s : RowDatabase) (files : List File) (port now : PortSeen File) (r : Reply) (by : RepliedBy tells s files port now r)
    → (n number page : ℕ) (why : Why) → r ≡ Failed n (Damaged number page why) → StandsOn tells s files now.reading.landings (new_place tells s files port now r by) number page why
last_stands tells s files port now (Done at what) by n number page why e = absurd cc
last_stands tells s files port now (Rows at rows) by n number page why e = absurd cc
last_stands tells s files port now (Refused at cause) by n number page why e = absurd cc
last_stands tells s files port now (Failed at Read) by n number page why e = absurd cc
last_stands tells s files port now (Failed at Write) by n number page why e = absurd cc
last_stands tells s files port now (Failed at (Damaged chunk place because)) by n number page why e =
    let same_number : chunk ≡ number = cc in
    let same_page : place ≡ page = cc in
    let same_why : because ≡ why = cc in
    rw (sym same_number, sym same_page, sym same_why) by.1.on
last_stands tells s files port now (Failed at Memory) by n number page why e = absurd cc

-- and the length that it tells is the history's
pub last_number : (s : Script) (x : Statement) (max : ℕ) (known : Type 0) (before new : RowDatabase) (history longer : List Entry) (r : Reply) → Settles x max known before history r new longer
    → (n number page : ℕ) (why : Why) → r ≡ Failed n (Damaged number page why) → n ≡ length history
last_number s x max known before new history longer (Done at what) settles n number page why e = absurd cc
last_number s x max known before new history longer (Rows at rows) settles n number page why e = absurd cc
last_number s x max known before new history longer (Refused at cause) settles n number page why e = absurd cc
last_number s x max known before new history longer (Failed at cause) settles n number page why e = (let same : at ≡ n = cc in sym same ∙ settles.0.at_is)

told_digest : (at number page : ℕ) (why : Why) → is_digest_why why ≡ true → failed_so is_digest (Failed at (Damaged number page why)) ≡ true
told_digest at number page why e = e

-- over more files
stands_more : {File : Type 0} (tells : Bool) (s : RowDatabase) (files new : List File) (landed : List (Landing File)) (place number page : ℕ) (why : Why)
    → StandsOn tells s files landed place number page why → StandsOn tells s (files ++ new) landed place number page why
stands_more tells s files new landed place number page why on =
    stands_longer tells s files new landed [] landed place number page why (sym (append-nil landed)) on

-- each read that landed for the last reply serves, or the reply tells it
last_told : {File : Type 0} (tells : Bool) (s : RowDatabase) (files : List File) (port now : PortSeen File) (r : Reply) (by : RepliedBy tells s files port now r)
    → (j : ℕ) (read : Landing File) → length port.reading.landings ≤ j → slice_get now.reading.landings j ≡ Some read
    → Serves s files read ⊎ ((j ≡ new_place tells s files port now r by) × (failed_so is_digest r ≡ true))
last_told tells s files port now (Done at what) by j read since stands = inl (by.1 j read since stands)
last_told tells s files port now (Rows at rows) by j read since stands = inl (by.1 j read since stands)
last_told tells s files port now (Refused at cause) by j read since stands = inl (by.1 j read since stands)
last_told tells s files port now (Failed at Read) by j read since stands = inl (by.2 j read since stands)
last_told {File} tells s files port now (Failed at Write) by j read since stands =
    absurd (let within : j < length now.reading.landings = slice_get_within now.reading.landings j read stands in omega (arith, ap (λ (r : Reading File). length r.landings) by.1))
last_told tells s files port now (Failed at (Damaged number page why)) by j read since stands =
    elim (by.1.others j read since stands) [ inl serves ↦ inl serves | inr it ↦ inr (it.0, told_digest at number page why it.1) ]
last_told tells s files port now (Failed at Memory) by j read since stands = inl (by.1 j read since stands)

-- reads that serve do so over more files
serve_more : {File : Type 0} (s : RowDatabase) (files new : List File) (port now : PortSeen File) → AllServe s files port now → AllServe s (files ++ new) port now
serve_more s files new port now serve place read since stands = serves_longer s files new read (serve place read since stands)

-- the same over more files
pub replied_more : {File : Type 0} (tells : Bool) (s : RowDatabase) (files new : List File) (port now : PortSeen File) (r : Reply) → RepliedBy tells s files port now r → RepliedBy tells s (files ++ new) port now r
replied_more tells s files new port now (Done at what) by = (by.0, serve_more s files new port now by.1)
replied_more tells s files new port now (Rows at rows) by = (by.0, serve_more s files new port now by.1)
replied_more tells s files new port now (Refused at cause) by = (by.0, serve_more s files new port now by.1)
replied_more tells s files new port now (Failed at Read) by = (by.0, by.1, serve_more s files new port now by.2)
replied_more tells s files new port now (Failed at Write) by = by
replied_more tells s files new port now (Failed at (Damaged number page why)) by = (
  by.0,
  record {
    place = by.1.place;
    since = by.1.since;
    on = stands_more tells s files new now.reading.landings by.1.place number page why by.1.on;
    others = (λ place read since stands. elim (by.1.others place read since stands) [ inl serves ↦ inl (serves_longer s files new read serves) | inr it ↦ inr it ]);
  },
)
replied_more tells s files new port now (Failed at Memory) by = (by.0, serve_more s files new port now by.1)

-- ---- the port of one of many sessions

-- without a reply more: over a longer history, more files, and more reads, which all serve
damage_longer : {File : Type 0} (tells : Bool) (s : Script) (history longer : List Entry) (rs : List Reply) (files fresh : List File) (landed more after : List (Landing File))
    → DamagesStand tells s history rs files landed
    → ((k : ℕ) (q : Reply) → slice_get rs k ≡ Some q → number_of q ≤ length history)
    → ((n : ℕ) → n ≤ length history → database_after s longer n ≡ database_after s history n)
    → after ≡ landed ++ more
    → ((j : ℕ) (read : Landing File) → length landed ≤ j → slice_get after j ≡ Some read → (n : ℕ) × Serves (database_after s longer n) (files ++ fresh) read)
    → DamagesStand tells s longer rs (files ++ fresh) after
damage_longer {File} tells s history longer rs files fresh landed more after old within same is serve = record {
  place = old.place;
  stands = (λ k n number page why e. let le : n ≤ length history = within k (Failed n (Damaged number page why)) e in
      rw (same n le) (stands_longer tells (database_after s history n) files fresh landed more after (old.place k) number page why is (old.stands k n number page why e)));
  distinct = old.distinct;
  told = (λ j read stands. elim (cases_lt j (length landed)) [
    | inl below ↦ (let had : slice_get landed j ≡ Some read = sym (get_front landed more j below) ∙ ap (λ (l : List (Landing File)). slice_get l j) (sym is) ∙ stands in
        elim (old.told j read had) [
          | inl serves ↦ (let there = is_at s history longer serves.0 same in
              inl (there.at, subst (λ (d : RowDatabase). Serves d (files ++ fresh) read) (sym there.same) (serves_longer (database_after s history serves.0) files fresh read serves.1)))
          | inr tells_it ↦ inr tells_it
        ])
    | inr above ↦ inl (serve j read above stands)
  ]);
}

pub caused_longer : {File : Type 0} (tells : Bool) (s : Script) (history longer : List Entry) (rs : List Reply) (files fresh : List File) (port now : PortSeen File) (more : List (Landing File))
    → CausedBy tells s history rs port files
    → ((k : ℕ) (q : Reply) → slice_get rs k ≡ Some q → number_of q ≤ length history)
    → ((n : ℕ) → n ≤ length history → database_after s longer n ≡ database_after s history n)
    → now.reading.landings ≡ port.reading.landings ++ more → IsStill port now
    → ((j : ℕ) (read : Landing File) → length port.reading.landings ≤ j → slice_get now.reading.landings j ≡ Some read → (n : ℕ) × Serves (database_after s longer n) (files ++ fresh) read)
    → CausedBy tells s longer rs now (files ++ fresh)
caused_longer tells s history longer rs files fresh port now more caused within same is still serve = record {
  reads = subst (λ (n : ℕ). RoseWith (count_by (failed_so is_read) rs) 0 n) (sym still.reads) caused.reads;
  writes = subst (λ (n : ℕ). RoseWith (count_by (failed_so is_write) rs) 0 n) (sym still.writes) caused.writes;
  damage = damage_longer tells s history longer rs files fresh port.reading.landings more now.reading.landings caused.damage within same is serve;
}

-- a port that read no more
pub caused_kept : {File : Type 0} (tells : Bool) (s : Script) (history longer : List Entry) (rs : List Reply) (files fresh : List File) (port : PortSeen File)
    → CausedBy tells s history rs port files
    → ((k : ℕ) (q : Reply) → slice_get rs k ≡ Some q → number_of q ≤ length history)
    → ((n : ℕ) → n ≤ length history → database_after s longer n ≡ database_after s history n)
    → CausedBy tells s longer rs port (files ++ fresh)
caused_kept tells s history longer rs files fresh port caused within same =
    caused_longer tells s history longer rs files fresh port port [] caused within same (sym (append-nil port.reading.landings)) (record { reads = refl; writes = refl })
    (λ j read since stands. absurd (let below : j < length port.reading.landings = slice_get_within port.reading.landings j read stands in omega arith))

-- with one reply more, over a database of the history at the length that it tells
pub caused_replied : {File : Type 0} (tells : Bool) (s : Script) (before : RowDatabase) (base : ℕ) (history longer : List Entry) (rs : List Reply) (r : Reply) (files fresh : List File) (port now : PortSeen File)
    → CausedBy tells s history rs port files
    → ((k : ℕ) (q : Reply) → slice_get rs k ≡ Some q → number_of q ≤ length history)
    → ((n : ℕ) → n ≤ length history → database_after s longer n ≡ database_after s history n)
    → before ≡ database_after s longer base
    → ((n number page : ℕ) (why : Why) → r ≡ Failed n (Damaged number page why) → n ≡ base)
    → RepliedBy tells before files port now r → GoesOn port now → CausedBy tells s longer (rs ++ r ∷ []) now (files ++ fresh)
caused_replied tells s before base history longer rs r files fresh port now caused within same here number by goes = record {
  reads = rose_with_next (failed_so is_read) rs r port.reading.read_faults now.reading.read_faults caused.reads goes.reads.faults (read_rose tells before files port now r by) (read_still tells before files port now r by);
  writes = rose_with_next (failed_so is_write) rs r port.write_faults now.write_faults caused.writes goes.faults (write_rose tells before files port now r by) (write_still tells before files port now r by);
  damage = damage_next tells s history longer rs r files fresh port.reading.landings goes.reads.more now.reading.landings (new_place tells before files port now r by) caused.damage within
      same goes.reads.landed (place_since tells before files port now r by)
      (λ n number_told page why e. (let at : n ≡ base = number n number_told page why e in
      subst (λ (d : RowDatabase). StandsOn tells d (files ++ fresh) now.reading.landings (new_place tells before files port now r by) number_told page why) (here ∙ ap (database_after s longer) (sym at))
      (stands_more tells before files fresh now.reading.landings (new_place tells before files port now r by) number_told page why (last_stands tells before files port now r by n number_told page why e))))
      (λ j read since stands. elim (last_told tells before files port now r by j read since stands) [
        | inl serves ↦ inl (base, subst (λ (d : RowDatabase). Serves d (files ++ fresh) read) here (serves_longer before files fresh read serves))
        | inr told ↦ inr told
      ]);
}

-- before the first statement
pub caused_start : {File : Type 0} (tells : Bool) (s : Script) → CausedBy tells s [] [] (fresh_port File) []
caused_start tells s = record {
  reads = record { by = record { falls_never = omega arith; risen = omega arith }; still = λ none. refl };
  writes = record { by = record { falls_never = omega arith; risen = omega arith }; still = λ none. refl };
  damage = record {
    place = λ k. k;
    stands = λ k n number page why e. absurd cc;
    distinct = λ j k e_j e_k same. absurd cc;
    told = λ j read stands. absurd cc;
  };
}
