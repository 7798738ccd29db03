-- What a catalogue holds after its tables and entries have changed.
use Rattle.std.proofs.Common.{◌≡◌, ℕ, ◌+◌, ◌<◌, List, [], ◌∷◌, ◌++◌, length, sym, ap, subst, ◌∙◌}
use Rattle.std.proofs.lemmas.List.{length_push, length-map}
use Rattle.hv_model.specs.declared.catalogue.Database.{Database}
use Rattle.hv_model.specs.declared.catalogue.Entry.{Entry}
use Rattle.hv_catalogue.specs.declared.stored.Stored.{Stored}
use Rattle.hv_catalogue.specs.Holding.{Holding, IsStepped}
use Rattle.hv_catalogue.specs.Stored.{table_of, tables_of, holding_of}

-- a database, and a history with one entry more
abbrev pub held_after : {C : Type 0} → Database C → List Entry → Entry → Holding C
held_after d history e = record { database = d; history = history ++ e ∷ [] }

module _ {C : Type 0} where
  -- the database that the tables are, with one entry more
  pub became : (d : Database C) (es : List (List ℕ × Stored C)) (made : ℕ) (items new : List Entry) (e : Entry) → tables_of es ≡ d.tables → made ≡ d.made → d.length ≡ length items + 1 → new ≡ items ++ e ∷ []
      → held_after d items e ≡ holding_of es made new
  became d es made items new e tables made_is counted more =
      let long : d.length ≡ length new = counted ∙ sym (length_push items e) ∙ ap (λ (l : List Entry). length l) (sym more) in
      λ j. record { database = record { tables = sym tables j; made = sym made_is j; length = long j }; history = sym more j }

  -- the same tables and entries, kept elsewhere
  pub unchanged : (before : Holding C) (es changed : List (List ℕ × Stored C)) (made : ℕ) (items new : List Entry) → tables_of changed ≡ tables_of es → new ≡ items → holding_of es made items ≡ before → holding_of changed made new ≡ before
  unchanged before es changed made items new tables same is =
      let back : holding_of changed made new ≡ holding_of es made items = λ j. record { database = record { tables = tables j; made = made; length = length (same j) }; history = same j } in
      back ∙ is

  -- one step of what was held
  pub stepped : (held before : Holding C) (become : Database C → Database C) (es : List (List ℕ × Stored C)) (made : ℕ) (new : List Entry) (e entry : Entry) → held ≡ before
      → tables_of es ≡ (become held.database).tables → made ≡ (become held.database).made → (become held.database).length ≡ length held.history + 1 → new ≡ held.history ++ e ∷ [] → e ≡ entry
      → IsStepped before (holding_of es made new) (become before.database) entry
  stepped held before become es made new e entry is tables made_is counted more same =
      let all = became (become held.database) es made held.history new e tables made_is counted more in record {
        database = ap (λ (h : Holding C). h.database) (sym all) ∙ ap (λ (h : Holding C). become h.database) is;
        history = more ∙ (λ j. (is j).history ++ same j ∷ []);
      }

  -- a number of a table is the place of an entry
  pub within_entries : (es : List (List ℕ × Stored C)) (made : ℕ) (items : List Entry) (held : Holding C) (at : ℕ) → holding_of es made items ≡ held → at < length held.database.tables → at < length es
  within_entries es made items held at is within =
      subst (λ (n : ℕ). at < n) (length-map es table_of) (subst (λ (h : Holding C). at < length h.database.tables) (sym is) within)
