-- Functions changed at one number, and what no test can be.
use Rattle.std.proofs.Common.{◌≡◌, ℕ, Bool, true, false, eqb, is_some, Some, None, sym, refl, ap, ◌∙◌}
use Rattle.meaning.specs.Store.{put}
use Rattle.std.proofs.lemmas.Bool.{true≢false, both_ways, cond_both, cond-false, cond-true, eq-eqb, eqb-false, eqb-true, ne_eqb}

module _ {X : Type 0} where
  -- what holds of a function changed at one number
  pub put_at : (f : ℕ → X) (k q : ℕ) (x : X) (Q : X → Type 0) → (q ≡ k → Q x) → ((q ≡ k → ⊥) → Q (f q)) → Q (put f k x q)
  put_at f k q x Q hit miss =
      cond_both (eqb q k) x (f q) Q (λ e. hit (eqb-true q k e)) (λ e. miss (eqb-false q k e))

  pub put_same : (f : ℕ → X) (k : ℕ) (x : X) → put f k x k ≡ x
  put_same f k x = cond-true (eqb k k) x (f k) (eq-eqb k k refl)

  pub put_other : (f : ℕ → X) (k q : ℕ) (x : X) → (q ≡ k → ⊥) → put f k x q ≡ f q
  put_other f k q x n = cond-false (eqb q k) x (f q) (ne_eqb q k n)

  -- of two changes at one number the last counts
  pub put_put : (f : ℕ → X) (k q : ℕ) (x y : X) → put (put f k x) k y q ≡ put f k y q
  put_put f k q x y =
      put_at (put f k x) k q y (λ z. z ≡ put f k y q) (λ e. sym (ap (put f k y) e ∙ put_same f k y))
      (λ n. put_other f k q x n ∙ sym (put_other f k q y n))

pub never : {A : Type 0} (b : Bool) → b ≡ true → b ≡ false → A
never b p q = absurd (both_ways b q p)

pub some_none : {X Y : Type 0} (x : X) → Some x ≡ None → Y
some_none x e = absurd (true≢false (ap is_some e))
