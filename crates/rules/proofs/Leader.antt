-- Whenever some transactions are active, one precedes every other: among the threads below n, by induction on n.
use Rattle.std.proofs.Common.{◌≡◌, ℕ, zero, suc, ◌<◌, true, false, not, ◌⊎◌, sym, ap, ◌∙◌, subst, inl, inr, ⊎_elim, arith}
use Rattle.std.proofs.lemmas.Bool.{both_ways, cases_Bool, cases_eq, false≢true}
use Rattle.rules.specs.declared.descriptor.Status.TheVariants.{Active}
use Rattle.rules.specs.Machine.{Machine}
use Rattle.rules.specs.Outside.{Foremost, IsActive, Precedes}
use Rattle.rules.specs.Policy.{Laws, Policy}
use Rattle.rules.specs.Sound.{SoundPriority}
use Rattle.rules.specs.State.{Descriptor}
use Rattle.rules.specs.Tests.{is_active, is_idle}
use Rattle.rules.proofs.Bounds.{Steady}
use Rattle.rules.proofs.Modes.{active_status_is}
use Rattle.rules.proofs.Told.{active_is, active_says}

module _ {V : Type 0} (P : Policy V) (laws : Laws P.rules) (m : Machine V) (st : Steady m.state) where
  abbrev g : ℕ → Descriptor
  g = m.state.descriptors

  pub begun : (s : ℕ) → (g s).status ≡ Active → SoundPriority s m.state.begins (g s).priority
  begun s a = st.bounds.begun s (λ e. false≢true (ap is_idle (sym a ∙ e)))

  -- of two active transactions one precedes
  pub beats : (s t : ℕ) → (g s).status ≡ Active → (g t).status ≡ Active → (s ≡ t → ⊥) → P.rules.precedes (g s).priority (g t).priority ≡ false → Precedes P m t s
  beats s t a b n h =
      laws.decided (g t).priority (g s).priority (begun t b).possible (begun s a).possible
      (λ k. n (sym (begun s a).own_thread ∙ sym k ∙ (begun t b).own_thread))
      ∙ ap not h

  record Leads (n u : ℕ) : Type 0 where
    pub below : u < n
    pub active : (g u).status ≡ Active
    pub first : (s : ℕ) → s < n → (s ≡ u → ⊥) → (g s).status ≡ Active → Precedes P m u s

  leader : (n : ℕ) → ((s : ℕ) → s < n → (g s).status ≡ Active → ⊥) ⊎ ((u : ℕ) × Leads n u)
  leader zero = inl (λ s l _. omega arith)
  leader (suc n) =
      ⊎_elim
      (λ (a : is_active (g n).status ≡ true). inr (⊎_elim (λ none. (n, alone none (active_status_is (g n).status a))) (λ b. joins b.0 b.1 (active_status_is (g n).status a)) (leader n)))
      (λ (a : is_active (g n).status ≡ false).
      let absent : (g n).status ≡ Active → ⊥ = λ e. both_ways (is_active (g n).status) a (ap is_active e) in
      ⊎_elim (λ none. inl (λ s l. ⊎_elim (λ (k : s ≡ n) (e : (g s).status ≡ Active). absent (subst (λ z. (g z).status ≡ Active) k e)) (λ (k : s ≡ n → ⊥). none s (omega arith)) (cases_eq s n)))
      (λ b. inr (b.0, still b.0 b.1 absent)) (leader n))
      (cases_Bool (is_active (g n).status))
    where
      alone : ((s : ℕ) → s < n → (g s).status ≡ Active → ⊥) → (g n).status ≡ Active → Leads (suc n) n
      alone none a = record { below = omega arith; active = a; first = λ s l k e. absurd (none s (omega (arith, l, k)) e) }

      still : (u : ℕ) → Leads n u → ((g n).status ≡ Active → ⊥) → Leads (suc n) u
      still u h absent =
          record {
            below = omega (arith, h.below);
            active = h.active;
            first =
                λ s l k e. ⊎_elim (λ (j : s ≡ n). absurd (absent (subst (λ z. (g z).status ≡ Active) j e)))
                (λ (j : s ≡ n → ⊥). h.first s (omega arith) k e) (cases_eq s n);
          }

      joins : (u : ℕ) → Leads n u → (g n).status ≡ Active → (v : ℕ) × Leads (suc n) v
      joins u h a =
          let apart : u ≡ n → ⊥ = λ e. omega (arith, h.below, e) in
          ⊎_elim
          (λ (z : P.rules.precedes (g u).priority (g n).priority ≡ true). (
            u,
            record {
              below = omega (arith, h.below);
              active = h.active;
              first =
                  λ s l k e. ⊎_elim (λ (j : s ≡ n). subst (Precedes P m u) (sym j) z) (λ (j : s ≡ n → ⊥). h.first s (omega arith) k e) (cases_eq s n);
            },
          ))
          (λ (z : P.rules.precedes (g u).priority (g n).priority ≡ false).
          let over = beats u n h.active a apart z in (
            n,
            record {
              below = omega arith;
              active = a;
              first =
                  λ s l k e. ⊎_elim (λ (j : s ≡ u). subst (Precedes P m n) (sym j) over)
                  (λ (j : s ≡ u → ⊥).
                  laws.transitive (g n).priority (g u).priority (g s).priority (begun n a).possible (begun u h.active).possible (begun s e).possible
                  over (h.first s (omega arith) j e))
                  (cases_eq s u);
            },
          ))
          (cases_Bool (P.rules.precedes (g u).priority (g n).priority))

  pub foremost_exists : (t : ℕ) → IsActive P m t → (u : ℕ) × Foremost P m u
  foremost_exists t a =
      let k = active_is P m t a in
      ⊎_elim (λ none. absurd (none t k.0 k.1))
      (λ b. let u = b.0 in
      (u, (active_says P m u b.1.below b.1.active, λ s n e. let j = active_is P m s e in b.1.first s j.0 n j.1)))
      (leader 16)
