-- When two keys name one page.
use Rattle.std.specs.Prelude.{Bool, ◌&&◌, nat_eq}
use Rattle.std.specs.Str.{bytes_eq}
use Rattle.hv_pool.specs.declared.key.PageKey.{PageKey}

-- the same chunk, the same page, and the same digest
abbrev pub same_key : PageKey → PageKey → Bool
same_key a b = nat_eq a.chunk b.chunk && (nat_eq a.page b.page && bytes_eq a.digest b.digest)
