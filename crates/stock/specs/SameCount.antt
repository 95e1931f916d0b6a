-- A Count is known by its number, since the fact in its ghost field has one proof.
use Rattle.std.specs.Prelude.{◌≡◌, ℕ, ◌<◌, ◌≤◌, ◌^◌, min, Some, None, Option, nat_le}
use Rattle.std.proofs.Common.{ap, subst, sym, ◌∙◌, arith}
use Rattle.std.proofs.Math.Bridge.{le_prop}
use Rattle.stock.specs.declared.count.Count.{Count}
use Rattle.std.specs.Option.{unwrap_or}
use Rattle.std.proofs.lemmas.Bool.{cond_both, cond-true, le-leb, leb-true}
use Rattle.stock.specs.Count.{count, counted}

same_fact : (n : ℕ) (p q : n ≤ 999999) → ◌≡◌ {A = Count} (record { value = n; within = p }) (record { value = n; within = q })
same_fact n p q = ap (λ (x : n ≤ 999999). record { value = n; within = x }) (le_prop p q)

same_number : (m n : ℕ) → m ≡ n → (p : m ≤ 999999) (q : n ≤ 999999) →
    ◌≡◌ {A = Count} (record { value = m; within = p }) (record { value = n; within = q })
same_number m n e =
    subst (λ (k : ℕ). (p : m ≤ 999999) (q : k ≤ 999999) → ◌≡◌ {A = Count} (record { value = m; within = p }) (record { value = k; within = q })) e (same_fact m)

-- the Count of a number within the limit
pub counted_is : (n : ℕ) (p : n ≤ 999999) → record { value = n; within = p } ≡ counted n
counted_is n p = same_number n (min n 999999) (omega arith) p _

pub counted_value : (c : Count) → counted c.value ≡ c
counted_value c = same_number (min c.value 999999) c.value (omega (arith, c.within)) _ c.within

-- the laws of a Count's code
pub count_fits : (c : Count) → c.value < 2 ^ 64
count_fits c = omega (arith, c.within)

pub count_back : (c : Count) → count c.value ≡ Some c
count_back c = cond-true (nat_le c.value 999999) (Some (counted c.value)) None (le-leb c.value 999999 c.within) ∙ ap Some (counted_value c)

pub count_value : (n : ℕ) (c : Count) → count n ≡ Some c → c.value ≡ n
count_value n c =
    cond_both (nat_le n 999999) (Some (counted n)) None (λ (o : Option Count). o ≡ Some c → c.value ≡ n)
    (λ t e. let h = leb-true n 999999 t in
    let f : c.value ≡ min n 999999 = sym (ap (λ (o : Option Count). (unwrap_or o (counted n)).value) e) in
    omega arith)
    (λ t e. absurd (grind arith))
