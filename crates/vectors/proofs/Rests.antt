-- A file that loses bytes at its front: none, those of one read, and those of one part after another.
use Rattle.std.specs.Prelude.{ℕ, List, [], ◌++◌, take, Option, Result, Ok, Err}
use Rattle.std.specs.Io.KnownBytes.{ReadConsumes}
use Rattle.std.proofs.KnownBytes.{Consumes-nil, Consumes-trans, Consumes-kept}
use Rattle.vectors.specs.Rests.{LosesFront}

pub loses_none : (a : Option (List ℕ)) → LosesFront a a
loses_none a = ([], Consumes-nil a)

pub loses_more : (a b c : Option (List ℕ)) → LosesFront a b → LosesFront b c → LosesFront a c
loses_more a b c p q = (p.0 ++ q.0, Consumes-trans a b c p.0 q.0 p.1 q.1)

pub loses_read : {E : Type 0} (a b c : Option (List ℕ)) (r : Result ℕ E) (buffer : List ℕ) → LosesFront a b → ReadConsumes b c r buffer → LosesFront a c
loses_read a b c (Ok n) buffer p q = loses_more a b c p (take n buffer, q.0)
loses_read a b c (Err e) buffer p q = (p.0, Consumes-kept a b c p.0 p.1 q)
