-- The page was read of the file that was opened.
use Rattle.std.proofs.Common.{ℕ, List, Option, Result, OnOk}
use Rattle.std.proofs.lemmas.Result.{on_ok_weaker}
use Rattle.hv_dev.specs.Files.{ReadPage, FetchedPage}
use Rattle.hv_dev.proofs.files.file.StoredFile.read.Goals as goal

fetched : {F T E : Type 0} (position : F → Option ℕ) (remaining : F → Option (List ℕ)) (before after : F) (number : ℕ) (bytes : List ℕ) (r : Result T E)
    → OnOk r (ReadPage position remaining before after number bytes) → OnOk r (FetchedPage position remaining number bytes)
fetched position remaining before after number bytes r h =
    on_ok_weaker {Q = FetchedPage position remaining number bytes} r (λ is. record { before = before; after = after; is = is }) h

pub returns : goal.returns
returns g c = fetched _ _ _ _ _ _ _ c.read_page.ensures
