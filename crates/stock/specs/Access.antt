-- An access and its kind.
--   writing          an access of this kind writes its word
--   writing_access   the access writes; one whose kind is no kind's does not
use Rattle.std.specs.Prelude.{Bool, false, Some, None, Option}
use Rattle.stock.specs.declared.access.Access.{Access}
use Rattle.stock.specs.declared.kind.AccessKind.{AccessKind}
use Rattle.stock.specs.Kind.{kind_of, writes}

abbrev pub writing : Option AccessKind → Bool
writing None = false
writing (Some k) = writes k

abbrev pub writing_access : {V : Type 0} → Access V → Bool
writing_access a = writing (kind_of a.kind)
