-- One grammar behind another keeps the laws.
use Rattle.std.proofs.Common.{◌≡◌, ◌⊎◌, Bool, true, ◌&&◌, List, [], ◌∷◌, ◌++◌, refl, sym, ◌∙◌, ap, subst, inl, inr, append_assoc}
use Rattle.std.specs.Prelude.{Ok, Err}
use Rattle.std.specs.List.{list_all}
use Rattle.std.proofs.lemmas.Bool.{and_from}
use Rattle.std.proofs.lemmas.List.Folds.{list_all-append}
use Rattle.hv_model.specs.declared.lexeme.Lexeme.{Lexeme}
use Rattle.hv_model.specs.declared.lexeme.What.{What}
use Rattle.hv_model.specs.declared.lexeme.Kind.{Kind}
use Rattle.hv_model.specs.Terminals.{whats}
use Rattle.hv_model.specs.Grammar as g
use Rattle.hv_model.specs.Grammar.{Grammar, Then}
use Rattle.hv_model.specs.Reading.{Read, Reader, on_read, ◌>>=◌, ◌>>◌}
use Rattle.hv_sql.proofs.KindSets.{joined, apart, when, Avoids, Begins, member-joined_left, member-joined_right, Within-Avoids, Within-Begins, apart-Avoids}
use Rattle.hv_sql.proofs.Lawful.{fault_is, ok_no_err, Took, FailedBy, LawfulBy, placed, whats-placed}

-- ---- one behind another

-- what was taken is taken again before a second front and what follows
pub behind : {A : Type 0} {R : Grammar A} (p : Reader A) {lexemes middle : List Lexeme} {a : A} (took : Took R p lexemes middle a) (front : List Lexeme) (t : Lexeme) (us after : List Lexeme)
    → middle ≡ front ++ t ∷ us → p (took.front ++ (front ++ t ∷ after)) ≡ Ok (a, front ++ t ∷ after)
behind p took [] t us after e = took.same t us after e
behind p took (s ∷ ss) t us after e = took.same s (ss ++ t ∷ us) (ss ++ t ∷ after) e

-- lexemes in two parts
pub record Split (xs ys : List What) (us : List Lexeme) : Type 0 where
  pub left : List Lexeme
  pub right : List Lexeme
  pub is : us ≡ left ++ right
  pub left_is : whats left ≡ xs
  pub right_is : whats right ≡ ys

pub split_whats : (xs ys : List What) (us : List Lexeme) → whats us ≡ xs ++ ys → Split xs ys us
split_whats [] ys us e = record { left = []; right = us; is = refl; left_is = refl; right_is = e }
split_whats (x ∷ xs) ys [] e = absurd cc
split_whats (x ∷ xs) ys (u ∷ us) e =
    let rest = split_whats xs ys us (tails e) in
    record {
      left = u ∷ rest.left;
      right = rest.right;
      is = ap (λ z. u ∷ z) rest.is;
      left_is = ap (λ z. u.what ∷ z) rest.left_is ∙ ap (λ z. z ∷ xs) (heads e);
      right_is = rest.right_is;
    }
  where
    tails : u.what ∷ whats us ≡ x ∷ (xs ++ ys) → whats us ≡ xs ++ ys
    tails f = cc

    heads : u.what ∷ whats us ≡ x ∷ (xs ++ ys) → u.what ≡ x
    heads f = cc

module _ {A B : Type 0} {R : Grammar A} (p : Reader A) {Q : A → Grammar B} (q : A → Reader B) where
  took_both : (lexemes middle rest : List Lexeme) (a : A) (b : B) → Took R p lexemes middle a → Took (Q a) (q a) middle rest b → Took (g.◌>>=◌ R Q) (p >>= q) lexemes rest b
  took_both lexemes middle rest a b f s = record {
    front = f.front ++ s.front;
    is = f.is ∙ ap (λ z. f.front ++ z) s.is ∙ sym (append_assoc f.front s.front rest);
    whole = λ after. record {
      value = a;
      middle = s.front ++ after;
      first = subst (λ z. R z (s.front ++ after) a) (sym (append_assoc f.front s.front after)) (f.whole (s.front ++ after));
      second = s.whole after;
    };
    same = λ t us after e.
        ap (p >>= q) (append_assoc f.front s.front (t ∷ after))
        ∙ ap (on_read q) (behind p f s.front t us after (s.is ∙ ap (λ z. s.front ++ z) e))
        ∙ s.same t us after e;
  }

  pub some_both : {word more : List What} (front : List Lexeme)
      → ((us : List Lexeme) → whats us ≡ more → (value : A) × ((after : List Lexeme) → R (front ++ (us ++ after)) after value))
      → ((a : A) (us : List Lexeme) → whats us ≡ word → (value : B) × ((after : List Lexeme) → Q a (us ++ after) after value))
      → (us : List Lexeme) → whats us ≡ more ++ word → (value : B) × ((after : List Lexeme) → Then R Q (front ++ (us ++ after)) after value)
  some_both {word} {more} front f s us e =
      let split = split_whats more word us e in
      let first = f split.left split.left_is in
      let second = s first.0 split.right split.right_is in (
        second.0,
        λ after. record {
          value = first.0;
          middle = split.right ++ after;
          first = subst (λ z. R (front ++ z) (split.right ++ after) first.0) (sym (append_assoc split.left split.right after) ∙ ap (λ z. z ++ after) (sym split.is))
              (first.1 (split.right ++ after));
          second = second.1 after;
        },
      )

  pub failed_first : {good : What → Bool} {word : List What} (lexemes at : List Lexeme) → FailedBy good R p lexemes at → list_all good word ≡ true
      → ((a : A) (us : List Lexeme) → whats us ≡ word → (value : B) × ((after : List Lexeme) → Q a (us ++ after) after value)) → FailedBy good (g.◌>>=◌ R Q) (p >>= q) lexemes at
  failed_first {good} {word} lexemes at f r s = record {
    front = f.front;
    is = f.is;
    more = f.more ++ word;
    real = list_all-append good f.more word ∙ and_from _ _ f.real r;
    whole = some_both f.front f.whole s;
    same = λ t us after e. ap (on_read q) (f.same t us after e);
  }

  pub failed_second : {good : What → Bool} (lexemes middle at : List Lexeme) (a : A) → Took R p lexemes middle a → FailedBy good (Q a) (q a) middle at → FailedBy good (g.◌>>=◌ R Q) (p >>= q) lexemes at
  failed_second lexemes middle at a f s = record {
    front = f.front ++ s.front;
    is = f.is ∙ ap (λ z. f.front ++ z) s.is ∙ sym (append_assoc f.front s.front at);
    more = s.more;
    real = s.real;
    whole = λ us e.
        let found = s.whole us e in (
          found.0,
          λ after. record {
            value = a;
            middle = s.front ++ (us ++ after);
            first = subst (λ z. R z (s.front ++ (us ++ after)) a) (sym (append_assoc f.front s.front (us ++ after))) (f.whole (s.front ++ (us ++ after)));
            second = found.1 after;
          },
        );
    same = λ t us after e.
        ap (p >>= q) (append_assoc f.front s.front (t ∷ after))
        ∙ ap (on_read q) (behind p f s.front t us after (s.is ∙ ap (λ z. s.front ++ z) e))
        ∙ s.same t us after e;
  }

  module _ {good : What → Bool} {bars heads bars' heads' : List Kind} {empty empty' : Bool} {word word' : List What} (l : LawfulBy good bars heads empty word R p) (m : (a : A) → LawfulBy good bars' heads' empty' word' (Q a) (q a)) where
    pub real' : list_all good word' ≡ true
    real' = (m (l.some (placed word) (whats-placed word)).0).real

    pub bind_reads : (lexemes rest : List Lexeme) (b : B) → (p >>= q) lexemes ≡ Ok (b, rest) → Took (g.◌>>=◌ R Q) (p >>= q) lexemes rest b
    bind_reads lexemes rest b h = go (p lexemes) refl h
      where
        go : (r : Read A) → p lexemes ≡ r → on_read q r ≡ Ok (b, rest) → Took (g.◌>>=◌ R Q) (p >>= q) lexemes rest b
        go (Ok x) e f = took_both lexemes x.1 rest x.0 b (l.reads lexemes x.1 x.0 e) ((m x.0).reads x.1 rest b f)
        go (Err at) e f = absurd (ok_no_err (b, rest) at (sym f))

    bind_fails : (lexemes at : List Lexeme) → (p >>= q) lexemes ≡ Err at → FailedBy good (g.◌>>=◌ R Q) (p >>= q) lexemes at
    bind_fails lexemes at h = go (p lexemes) refl h
      where
        first : FailedBy good R p lexemes at → FailedBy good (g.◌>>=◌ R Q) (p >>= q) lexemes at
        first f = failed_first lexemes at f real' (λ a. (m a).some)

        go : (r : Read A) → p lexemes ≡ r → on_read q r ≡ Err at → FailedBy good (g.◌>>=◌ R Q) (p >>= q) lexemes at
        go (Ok x) e f = failed_second lexemes x.1 at x.0 (l.reads lexemes x.1 x.0 e) ((m x.0).fails x.1 at f)
        go (Err us) e f = first (l.fails lexemes at (e ∙ ap (λ z. Err z) (fault_is {A = B} us at f)))

    bind_starts : (lexemes rest : List Lexeme) (b : B) → Then R Q lexemes rest b
        → Begins (joined heads (when empty heads')) lexemes ⊎ ((lexemes ≡ rest) × ((empty && empty') ≡ true))
    bind_starts lexemes rest b r = go (l.starts lexemes r.middle r.value r.first) ((m r.value).starts r.middle rest b r.second)
      where
        go : Begins heads lexemes ⊎ ((lexemes ≡ r.middle) × (empty ≡ true)) → Begins heads' r.middle ⊎ ((r.middle ≡ rest) × (empty' ≡ true))
            → Begins (joined heads (when empty heads')) lexemes ⊎ ((lexemes ≡ rest) × ((empty && empty') ≡ true))
        go (inl s) _ = inl (Within-Begins heads (joined heads (when empty heads')) lexemes (λ k. member-joined_left k heads (when empty heads')) s)
        go (inr s) (inl u) = inl (subst (λ z. Begins (joined heads (when z heads')) lexemes) (sym s.1)
            (Within-Begins heads' (joined heads heads') lexemes (λ k. member-joined_right k heads heads') (subst (Begins heads') (sym s.0) u)))
        go (inr s) (inr u) = inr (s.0 ∙ u.0, and_from empty empty' s.1 u.1)

    bind_complete : apart heads' bars ≡ true → (lexemes rest : List Lexeme) (b : B) → Then R Q lexemes rest b → Avoids (joined (when empty' bars) bars') rest → (p >>= q) lexemes ≡ Ok (b, rest)
    bind_complete a lexemes rest b r s =
        ap (on_read q) (l.complete lexemes r.middle r.value r.first (go ((m r.value).starts r.middle rest b r.second)))
        ∙ (m r.value).complete r.middle rest b r.second (Within-Avoids bars' (joined (when empty' bars) bars') rest (λ k. member-joined_right k (when empty' bars) bars') s)
      where
        go : Begins heads' r.middle ⊎ ((r.middle ≡ rest) × (empty' ≡ true)) → Avoids bars r.middle
        go (inl u) = apart-Avoids heads' bars r.middle a u
        go (inr u) = subst (Avoids bars) (sym u.0) (Within-Avoids bars (joined bars bars') rest (λ k. member-joined_left k bars bars')
            (subst (λ z. Avoids (joined (when z bars) bars') rest) u.1 s))

    -- what begins the second may not bar the first
    pub bind_lawful : apart heads' bars ≡ true → LawfulBy good (joined (when empty' bars) bars') (joined heads (when empty heads')) (empty && empty') (word ++ word') (g.◌>>=◌ R Q) (p >>= q)
    bind_lawful a = record {
      complete = bind_complete a;
      starts = bind_starts;
      reads = bind_reads;
      fails = bind_fails;
      real = list_all-append good word word' ∙ and_from _ _ l.real real';
      some = some_both [] l.some (λ a. (m a).some);
    }

-- one behind another, and what follows depends on the value or not
pub seq : {A B : Type 0} {good : What → Bool} {R : Grammar A} {p : Reader A} {Q : A → Grammar B} {q : A → Reader B} {bars heads bars' heads' : List Kind} {empty empty' : Bool} {word word' : List What}
    → LawfulBy good bars heads empty word R p → ((a : A) → LawfulBy good bars' heads' empty' word' (Q a) (q a)) → apart heads' bars ≡ true
    → LawfulBy good (joined (when empty' bars) bars') (joined heads (when empty heads')) (empty && empty') (word ++ word') (g.◌>>=◌ R Q) (p >>= q)
seq {p = p} {q = q} l m a = bind_lawful p q l m a

pub seq_ : {A B : Type 0} {good : What → Bool} {R : Grammar A} {p : Reader A} {Q : Grammar B} {q : Reader B} {bars heads bars' heads' : List Kind} {empty empty' : Bool} {word word' : List What}
    → LawfulBy good bars heads empty word R p → LawfulBy good bars' heads' empty' word' Q q → apart heads' bars ≡ true
    → LawfulBy good (joined (when empty' bars) bars') (joined heads (when empty heads')) (empty && empty') (word ++ word') (g.◌>>◌ R Q) (p >> q)
seq_ {p = p} {q = q} l m a = bind_lawful p (λ _. q) l (λ _. m) a
