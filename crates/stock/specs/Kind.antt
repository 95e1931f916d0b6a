-- The kinds of access.
--   kind_number   0 look, 1 put, 2 draw, 3 stow
--   kind_of       the kind that has a number, if any
--   Decodes       a number gives its kind, or an error that holds it if it is no kind's
--   unknown_kind_text   what that error says
--   writes        all but a look do
use Rattle.std.specs.Prelude.{◌≡◌, ℕ, Bool, true, false, cond, List, ◌++◌, Some, None, Option, Result, IfErr, codes, decimal, ◌==◌}
use Rattle.std.specs.Result.{result_ok}
use Rattle.stock.specs.declared.kind.AccessKind.{AccessKind}
use Rattle.stock.specs.declared.kind.AccessKind.TheVariants.{Look, Put, Draw, Stow}
use Rattle.stock.specs.declared.kind.UnknownKind.{UnknownKind}

abbrev pub kind_number : AccessKind → ℕ
kind_number Look = 0
kind_number Put = 1
kind_number Draw = 2
kind_number Stow = 3

abbrev pub kind_of : ℕ → Option AccessKind
kind_of n =
    cond (n == kind_number Look) (Some Look)
    (cond (n == kind_number Put) (Some Put)
    (cond (n == kind_number Draw) (Some Draw)
    (cond (n == kind_number Stow) (Some Stow)
    None)))

abbrev pub Decodes : ℕ → Result AccessKind UnknownKind → Type 0
Decodes n r = (result_ok r ≡ kind_of n) × IfErr r (λ e. e.0 ≡ n)

abbrev pub unknown_kind_text : UnknownKind → List ℕ
unknown_kind_text e = codes "no kind of access has the number " ++ decimal e.0

abbrev pub writes : AccessKind → Bool
writes Look = false
writes Put = true
writes Draw = true
writes Stow = true
