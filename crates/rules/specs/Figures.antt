-- Figures that the definitions are known to give.
--   first_day       a day of calls
--   first_replies   what it is answered, each Count by its number
--   Figures         packing, the scatter map, and the first day from a new memory of 128 Counts that are 0
use Rattle.std.specs.Prelude.{◌≡◌, ℕ, List, [], ◌∷◌, map, replicate, None}
use Rattle.stock.specs.declared.access.Access.{Access}
use Rattle.stock.specs.declared.count.Count.{Count}
use Rattle.stock.specs.declared.fault.StockFault.TheVariants.{Short}
use Rattle.stock.specs.declared.kind.AccessKind.{AccessKind}
use Rattle.stock.specs.declared.kind.AccessKind.TheVariants.{Draw, Look, Stow}
use Rattle.stock.specs.Count.{counted}
use Rattle.stock.specs.Fault.{alone}
use Rattle.stock.specs.Kind.{kind_number}
use Rattle.decline.specs.declared.Decline.TheVariants.{Aborted, Stock, Wait}
use Rattle.policy.specs.declared.orec.Mode.TheVariants.{Read, Write}
use Rattle.policy.specs.Maps.{by_scatter}
use Rattle.policy.specs.Packing.{packed, unpacked}
use Rattle.rules.specs.DayPolicy.{day_policy}
use Rattle.rules.specs.Machine.{new}
use Rattle.rules.specs.Outcome.{Outcome, in_codes, accessed, begun, committed, declined, ran, wrote_back}
use Rattle.rules.specs.Replies.{replies}
use Rattle.rules.specs.Request.{Request, access, begin, commit, hardware, write_back}

abbrev to : AccessKind → ℕ → ℕ → Access Count
to kind word n = record { kind = kind_number kind; word = word; value = counted n }

abbrev pub first_day : List (Request Count)
first_day =
    begin 0 0 ∷ begin 1 0 ∷ access 1 (to Stow 3 7) ∷ access 0 (to Look 3 0) ∷ commit 1 ∷ commit 0
    ∷ hardware 2 32 (to Stow 3 4 ∷ to Look 3 0 ∷ []) (counted 0 ∷ counted 0 ∷ [])
    ∷ begin 1 0 ∷ access 1 (to Draw 3 6) ∷ access 1 (to Draw 3 1) ∷ begin 0 0 ∷ access 0 (to Look 67 0)
    ∷ commit 1 ∷ write_back 1 ∷ access 0 (to Look 3 0) ∷ []

abbrev pub first_replies : List (Outcome ℕ)
first_replies =
    begun 1 ∷ begun 1 ∷ accessed 7 ∷ accessed 0 ∷ declined Aborted [] ∷ committed 0 ∷ ran (0 ∷ 4 ∷ [])
    ∷ begun 2 ∷ declined (Stock (alone Short)) [] ∷ accessed 3 ∷ begun 2 ∷ declined (Wait 1) []
    ∷ committed 1 ∷ wrote_back 3 0 ∷ accessed 3 ∷ []

pub record Figures : Type 0 where
  pub read_packs : packed (record { mode = Read; readers = 2; thread = 5; version = 35 }) ≡ 2298889
  pub write_packs : packed (record { mode = Write; readers = 0; thread = 1; version = 35 }) ≡ 2294786
  pub three_unpacks : unpacked 3 ≡ None
  pub four_unpacks : unpacked 4 ≡ None
  pub sixty_nine_unpacks : unpacked 69 ≡ None
  pub one_scatters : by_scatter 1 ≡ 39
  pub two_scatters : by_scatter 2 ≡ 15
  pub day_replies :
      map (in_codes (λ c. c.value)) (replies day_policy (new (replicate 128 (counted 0)) (replicate 512 (counted 0))) first_day) ≡ first_replies
