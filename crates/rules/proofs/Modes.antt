-- What the tests of modes, statuses and options say of them, each by its cases.
use Rattle.std.proofs.Common.{◌≡◌, true, false, not, ◌||◌, Some, None, Option, refl}
use Rattle.std.proofs.lemmas.Bool.{false≢true, true≢false}
use Rattle.policy.specs.declared.orec.Mode.{Mode}
use Rattle.policy.specs.declared.orec.Mode.TheVariants.{Free, Read, Write}
use Rattle.rules.specs.declared.descriptor.Status.{Status}
use Rattle.rules.specs.declared.descriptor.Status.TheVariants.{Aborted, Active, Committed, Idle}
use Rattle.rules.specs.Sound.{gone}
use Rattle.rules.specs.Tables.{by_option}
use Rattle.rules.specs.Tests.{is_aborted, is_active, is_committed, is_idle, is_write}

pub write_mode_is : (m : Mode) → is_write m ≡ true → m ≡ Write
write_mode_is Free e = absurd (false≢true e)
write_mode_is Read e = absurd (false≢true e)
write_mode_is Write e = refl

pub active_from : (x : Status) → (is_idle x || is_committed x) ≡ false → is_aborted x ≡ false → x ≡ Active
active_from Idle p q = absurd (true≢false p)
active_from Active p q = refl
active_from Aborted p q = absurd (true≢false q)
active_from Committed p q = absurd (true≢false p)

pub active_status_is : (x : Status) → is_active x ≡ true → x ≡ Active
active_status_is Idle p = absurd (false≢true p)
active_status_is Active p = refl
active_status_is Aborted p = absurd (false≢true p)
active_status_is Committed p = absurd (false≢true p)

pub committed_status_is : (x : Status) → is_committed x ≡ true → x ≡ Committed
committed_status_is Idle p = absurd (false≢true p)
committed_status_is Active p = absurd (false≢true p)
committed_status_is Aborted p = absurd (false≢true p)
committed_status_is Committed p = refl

pub idle_from : (x : Status) → not (is_idle x) ≡ false → x ≡ Idle
idle_from Idle p = refl
idle_from Active p = absurd (true≢false p)
idle_from Aborted p = absurd (true≢false p)
idle_from Committed p = absurd (true≢false p)

pub committed_from : (x : Status) → not (is_committed x) ≡ false → x ≡ Committed
committed_from Idle p = absurd (true≢false p)
committed_from Active p = absurd (true≢false p)
committed_from Aborted p = absurd (true≢false p)
committed_from Committed p = refl

pub aborted_not : (x : Status) → is_aborted x ≡ true → is_committed x ≡ false
aborted_not Idle p = refl
aborted_not Active p = refl
aborted_not Aborted p = refl
aborted_not Committed p = absurd (false≢true p)

pub gone_from : (x : Status) → is_committed x ≡ false → is_active x ≡ false → gone x ≡ true
gone_from Idle p q = refl
gone_from Active p q = absurd (true≢false q)
gone_from Aborted p q = refl
gone_from Committed p q = absurd (true≢false p)

-- what holds both ways of a choice by an option
pub option_both : {A X : Type 0} (o : Option A) (k : A → X) (n : X) (Q : X → Type 0) → ((a : A) → o ≡ Some a → Q (k a)) → (o ≡ None → Q n) → Q (by_option o k n)
option_both (Some a) k n Q p q = p a refl
option_both None k n Q p q = q refl
