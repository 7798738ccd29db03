-- A list that takes no memory. This project's own.
use Rattle.std.specs.Prelude.{List, [], ◌∷◌, ◌++◌}
use Rattle.hv_dev.specs.declared.past.Log.{Log}
use Rattle.hv_dev.specs.declared.past.Log.TheOpen.{Log-F}
use Rattle.hv_dev.specs.declared.past.Log.TheFolds.{fold-Log}

-- what stood before, and one or some more
abbrev pub entries_step : {E : Type 0} → Log-F E (List E) → List E
entries_step Log-F.Empty = []
entries_step (Log-F.More before entry) = before.value ++ entry.value ∷ []
entries_step (Log-F.Both before more) = before.value ++ more.value

-- the entries, from the first noted to the last
abbrev pub entries : {E : Type 0} → Log E → List E
entries {E} = fold-Log E (List E) entries_step
