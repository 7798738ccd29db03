-- What a port writes to files, and what is read of one. This project's own.
use Rattle.std.specs.Prelude.{◌≡◌, ℕ, ◌+◌, ◌*◌, ◌%◌, ◌^◌, List, ◌++◌, codes, decimal, Option, Some, None, IfSome, string_bytes}
use Rattle.std.specs.Io.KnownBytes.{Appends, Consumes}
use Rattle.hv_dev.specs.declared.files.writer.Open.{Open}

-- the path of a file in a folder, by the number of its port and how many files that port had begun before
abbrev pub path_of : List ℕ → ℕ → ℕ → List ℕ
path_of folder port begun = folder ++ codes "/" ++ decimal port ++ codes "-" ++ decimal begun ++ codes ".pages"

-- the path of the file that is written next: the open one, or one more
abbrev pub path_now : {F : Type 0} → Option (Open F) → List ℕ → ℕ → ℕ → List ℕ
path_now (Some file) folder port begun = string_bytes file.path
path_now None folder port begun = path_of folder port begun

-- how many files are begun once one is open
abbrev pub begun_now : {F : Type 0} → Option (Open F) → ℕ → ℕ
begun_now (Some file) begun = begun
begun_now None begun = (begun + 1) % 2 ^ 64

-- the bytes were put behind those of the open file, or of one that was begun for them, where files tell what they hold
pub record Appended {F : Type 0} (contents : F → Option (List ℕ)) (was now : Option (Open F)) (path bytes : List ℕ) : Type 0 where
  pub before : Open F
  pub after : Open F
  pub goes_on : IfSome was (λ file. before ≡ file)
  pub stays : now ≡ Some after
  pub named : string_bytes after.path ≡ path
  pub put : Appends (contents before.file) (contents after.file) bytes

-- the bytes were read where the page of that number begins, as far as the file tells where it stands and what it has left
pub record ReadPage {F : Type 0} (position : F → Option ℕ) (remaining : F → Option (List ℕ)) (before after : F) (number : ℕ) (bytes : List ℕ) : Type 0 where
  pub found : F
  pub moved : IfSome (position before) (λ _. position found ≡ Some (4096 * number))
  pub read : Consumes (remaining found) (remaining after) bytes

-- so they were of some file
pub record FetchedPage {F : Type 0} (position : F → Option ℕ) (remaining : F → Option (List ℕ)) (number : ℕ) (bytes : List ℕ) : Type 0 where
  pub before : F
  pub after : F
  pub is : ReadPage position remaining before after number bytes
