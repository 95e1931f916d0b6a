-- What a cancel would return tells whether a transaction is active or aborted.
use Rattle.std.proofs.Common.{◌≡◌, ℕ, ◌<◌, ◌≤◌, true, cond, ◌||◌, ltb, [], Ok, Err, Result, sym, refl, ap, ◌∙◌, ⊎_elim, arith}
use Rattle.std.proofs.lemmas.Bool.{cases_lt, cond-false, cond-true, false≢true, le-ltb, lt-ltb}
use Rattle.decline.specs.declared.Decline.{Decline}
use Rattle.decline.specs.declared.Decline.TheVariants as decline
use Rattle.rules.specs.declared.descriptor.Status.{Status}
use Rattle.rules.specs.declared.descriptor.Status.TheVariants.{Aborted, Active, Committed, Idle}
use Rattle.rules.specs.Changes.{ended_by}
use Rattle.rules.specs.Machine.{Machine}
use Rattle.rules.specs.Next.{next, spoken}
use Rattle.rules.specs.Outcome.{Outcome, cancelled, declined, is_granted, returned}
use Rattle.rules.specs.Outside.{IsAborted, IsActive}
use Rattle.rules.specs.Policy.{Policy}
use Rattle.rules.specs.Request.{cancel}
use Rattle.rules.specs.State.{State}
use Rattle.rules.specs.Tests.{is_aborted, is_committed, is_idle}

-- what a cancel says of a status
abbrev says : Status → Result ℕ Decline
says Idle = Err decline.WrongStatus
says Active = Ok 0
says Aborted = Err decline.Aborted
says Committed = Err decline.WrongStatus

module _ {V : Type 0} (P : Policy V) (m : Machine V) (t : ℕ) where
  abbrev x : Status
  x = (m.state.descriptors t).status

  abbrev reply : Result ℕ Decline → Outcome V
  reply = spoken (λ _. cancelled)

  known : t < 16 → (next P m (cancel t)).0 ≡ reply (says x)
  known l =
      ap (λ (y : Result ℕ Decline × State). reply y.0) (cond-false (ltb 15 t) _ _ (le-ltb 15 t (omega (arith, l))))
      ∙ ap reply (by x)
    where
      by : (x : Status) →
          (cond {A = Result ℕ Decline × State} (is_idle x || is_committed x) (Err decline.WrongStatus, m.state)
          (cond (is_aborted x) (Err decline.Aborted, ended_by t m.state) (Ok 0, ended_by t m.state))).0
          ≡ says x
      by Idle = refl
      by Active = refl
      by Aborted = refl
      by Committed = refl

  unknown : 16 ≤ t → (next P m (cancel t)).0 ≡ declined decline.UnknownThread []
  unknown l = ap (λ (y : Result ℕ Decline × State). reply y.0) (cond-true (ltb 15 t) _ _ (lt-ltb 15 t (omega (arith, l))))

  pub active_says : t < 16 → x ≡ Active → IsActive P m t
  active_says l e = ap is_granted (known l ∙ ap (λ z. reply (says z)) e)

  pub aborted_says : t < 16 → x ≡ Aborted → IsAborted P m t
  aborted_says l e = ap returned (known l ∙ ap (λ z. reply (says z)) e)

  pub active_is : IsActive P m t → (t < 16) × (x ≡ Active)
  active_is a =
      ⊎_elim (λ (l : t < 16). (l, by x (sym (ap is_granted (known l)) ∙ a)))
      (λ (l : 16 ≤ t). absurd (false≢true (sym (ap is_granted (unknown l)) ∙ a))) (cases_lt t 16)
    where
      by : (x : Status) → is_granted (reply (says x)) ≡ true → x ≡ Active
      by Idle e = absurd (false≢true e)
      by Active e = refl
      by Aborted e = absurd (false≢true e)
      by Committed e = absurd (false≢true e)

  pub aborted_is : IsAborted P m t → x ≡ Aborted
  aborted_is a =
      ⊎_elim (λ (l : t < 16). by x (sym (ap returned (known l)) ∙ a))
      (λ (l : 16 ≤ t). absurd (omega (arith, sym (ap returned (unknown l)) ∙ a))) (cases_lt t 16)
    where
      by : (x : Status) → returned (reply (says x)) ≡ 7 → x ≡ Aborted
      by Idle e = absurd (omega (arith, e))
      by Active e = absurd (omega (arith, e))
      by Aborted e = refl
      by Committed e = absurd (omega (arith, e))
