-- the tables of the names so far, and of all
use Rattle.std.proofs.Common.{◌≡◌, ◌+◌, ◌∷◌, ◌++◌, [], ◌<◌, length, take, sym, ap, arith, ◌∙◌}
use Rattle.std.specs.Prelude.{slice_get}
use Rattle.std.proofs.lemmas.List.{take_more, take_all}
use Rattle.hv_catalogue.specs.Holding.{heads_named, held_named}
use Rattle.hv_catalogue.proofs.Named.{heads_append, held_append, held_each, held_count, all_stand}
use Rattle.hv_catalogue.proofs.catalogue.Catalogue.taken.Goals as goal

pub loop-name-preserved : goal.loop-name-preserved
loop-name-preserved g c =
    let s = c.args.self.now.database in
    let names = c.args.names.now in
    let place = c.loop-name.name-index in
    let name = c.name-item.result in
    let within : place < length names = omega arith in
    let more : take (place + 1) names ≡ take place names ++ name ∷ [] = take_more names place name within ∙ ap (λ n. take place names ++ n ∷ []) (sym c.name-item.is) in (
      c.in_ok-take_named.ensures.heads ∙ ap (λ l. l ++ heads_named s (name ∷ [])) c.loop-name.invariant.0 ∙ sym (heads_append s (take place names) (name ∷ [])) ∙ ap (λ l. heads_named s l) (sym more),
      c.in_ok-take_named.ensures.tables ∙ ap (λ l. l ++ held_named s (name ∷ [])) c.loop-name.invariant.1 ∙ sym (held_append s (take place names) (name ∷ [])) ∙ ap (λ l. held_named s l) (sym more),
    )

pub returns : goal.returns
returns g c =
    let s = c.args.self.now.database in
    let names = c.args.names.now in
    let all : take c.loop-name.name-index names ≡ names = take_all c.loop-name.name-index names c.loop-name-test.false in
    let heads = c.loop-name.invariant.0 ∙ ap (λ l. heads_named s l) all in
    let tables = c.loop-name.invariant.1 ∙ ap (λ l. held_named s l) all in
    let each_stands = all_stand s names c.requires in
    record {
      all = c.requires;
      at_is = c.length.ensures.history;
      heads = heads;
      each = λ place name t at is. ap (λ l. slice_get l place) tables ∙ held_each s names each_stands place name t at is;
      count = ap (λ l. length l) tables ∙ held_count s names each_stands;
    }
