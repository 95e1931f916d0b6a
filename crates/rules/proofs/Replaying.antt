-- What an active transaction has answered, against the logical values.
use Rattle.std.proofs.Common.{◌≡◌, ℕ, ◌+◌, ◌*◌, ◌<◌, Bool, true, false, cond, ◌||◌, List, is_some, sym, ap, ◌∙◌, ⊎_elim, arith}
use Rattle.meaning.specs.Store.{Store}
use Rattle.policy.specs.declared.orec.OwnershipRecord.{OwnershipRecord}
use Rattle.rules.specs.Logical.{logical}
use Rattle.rules.specs.Machine.{Machine}
use Rattle.rules.specs.Policy.{Policy}
use Rattle.rules.specs.Replay.{Answered, Replays, replayed}
use Rattle.rules.specs.Sound.{gone}
use Rattle.rules.specs.State.{Descriptor, owns_to_write}
use Rattle.rules.specs.WriteSet.{has, place}
use Rattle.std.proofs.ByRecursion.{All-weaker}
use Rattle.std.proofs.lemmas.Bool.{cases_Bool, cond-false, cond-true, or_left}
use Rattle.std.specs.List.{AllByRecursion}
use Rattle.rules.proofs.Basics.{never}
use Rattle.rules.proofs.Frame.{replay_frame, replayed_apart, replayed_frame}
use Rattle.rules.proofs.Inv.{Inv, Wrote}
use Rattle.rules.proofs.Places.{place_below}
use Rattle.rules.proofs.Release.{owned_from}

-- the thread with the descriptor d has the record, or a snapshot of it
abbrev pub touched : ℕ → Descriptor → ℕ → OwnershipRecord → Bool
touched t d r o = owns_to_write t d.version o || is_some (d.reads r)

module _ {V : Type 0} (P : Policy V) where
  abbrev pub view : Machine V → ℕ → Store V
  view m t b =
      cond (has b (m.state.descriptors t).writes) (m.redo (t * 32 + place b (m.state.descriptors t).writes)) (logical m b)

  pub record Follows (A : Type 0) (m : Machine V) (t : ℕ) (es : List (Answered V)) : Type 0 where
    pub touches : AllByRecursion (λ e. touched t (m.state.descriptors t) (P.rules.orec_of e.asked.word) (m.state.orecs (P.rules.orec_of e.asked.word)) ≡ true) es
    pub replays : A → Replays P.arithmetic (logical m) es
    pub views : A → (b : ℕ) → replayed P.arithmetic (logical m) es b ≡ view m t b

  -- A is what its answers hold under: that its snapshots match. What a change has to leave for a thread's steps to follow
  pub record Leaves (A A' : Type 0) (m m' : Machine V) (t : ℕ) : Type 0 where
    pub writes_same : (m'.state.descriptors t).writes ≡ (m.state.descriptors t).writes
    pub was : A' → A
    pub touched_still :
        (r : ℕ) → touched t (m.state.descriptors t) r (m.state.orecs r) ≡ true → touched t (m'.state.descriptors t) r (m'.state.orecs r) ≡ true
    pub redo_same : (j : ℕ) → j < 32 → m'.redo (t * 32 + j) ≡ m.redo (t * 32 + j)
    pub logical_same :
        A' → (b : ℕ) →
        touched t (m.state.descriptors t) (P.rules.orec_of b) (m.state.orecs (P.rules.orec_of b)) ≡ true → logical m b ≡ logical m' b

  module _ {A A' : Type 0} (m m' : Machine V) (t : ℕ) (es : List (Answered V)) (i : Inv m.state.orecs m.state.descriptors)
      (wrote : Wrote P.rules.orec_of m.state.orecs m.state.descriptors)
      (live : gone (m.state.descriptors t).status ≡ false) (k : Leaves A A' m m' t) (o : Follows A m t es) where
    abbrev H : ℕ → Bool
    H b = touched t (m.state.descriptors t) (P.rules.orec_of b) (m.state.orecs (P.rules.orec_of b))

    wrote_touched : (b : ℕ) → has b (m.state.descriptors t).writes ≡ true → H b ≡ true
    wrote_touched b h =
        let w = wrote t b live h in
        let q = i.owns (P.rules.orec_of b) w.0 in
        or_left (owns_to_write t (m.state.descriptors t).version (m.state.orecs (P.rules.orec_of b))) (is_some ((m.state.descriptors t).reads (P.rules.orec_of b)))
        (owned_from t (m.state.descriptors t).version (m.state.orecs (P.rules.orec_of b)) w.0 w.1
        (sym q.2 ∙ ap (λ s. (m.state.descriptors s).version) w.1))

    view_same : (b : ℕ) → (has b (m.state.descriptors t).writes ≡ false → logical m b ≡ logical m' b) → view m t b ≡ view m' t b
    view_same b e =
        ⊎_elim
        (λ (h : has b (m.state.descriptors t).writes ≡ true).
        cond-true (has b (m.state.descriptors t).writes) _ _ h
        ∙ sym (k.redo_same (place b (m.state.descriptors t).writes) (omega (arith, place_below b (m.state.descriptors t).writes h, (i.shape t).few)))
        ∙ ap (λ ws. m'.redo (t * 32 + place b ws)) (sym k.writes_same)
        ∙ sym (cond-true (has b (m'.state.descriptors t).writes) _ _ (ap (has b) k.writes_same ∙ h)))
        (λ (h : has b (m.state.descriptors t).writes ≡ false).
        cond-false (has b (m.state.descriptors t).writes) _ _ h ∙ e h
        ∙ sym (cond-false (has b (m'.state.descriptors t).writes) _ _ (ap (has b) k.writes_same ∙ h)))
        (cases_Bool (has b (m.state.descriptors t).writes))

    pub follows_on : Follows A' m' t es
    follows_on =
        record {
          touches =
              all_weaker' (λ e. H e.asked.word ≡ true)
              (λ e. touched t (m'.state.descriptors t) (P.rules.orec_of e.asked.word) (m'.state.orecs (P.rules.orec_of e.asked.word)) ≡ true)
              (λ e h. k.touched_still (P.rules.orec_of e.asked.word) h) es o.touches;
          replays = λ v. replay_frame P.arithmetic H (logical m) (logical m') es (k.logical_same v) o.touches (o.replays (k.was v));
          views =
              λ v b.
              ⊎_elim
              (λ (h : H b ≡ true).
              sym (replayed_frame P.arithmetic H (logical m) (logical m') es (k.logical_same v) o.touches b h)
              ∙ o.views (k.was v) b ∙ view_same b (λ _. k.logical_same v b h))
              (λ (h : H b ≡ false).
              replayed_apart P.arithmetic H (logical m') es b o.touches h
              ∙ sym (cond-false (has b (m'.state.descriptors t).writes) _ _
              (ap (has b) k.writes_same
              ∙ ⊎_elim (λ w. never (H b) (wrote_touched b w) h) (λ w. w) (cases_Bool (has b (m.state.descriptors t).writes)))))
              (cases_Bool (H b));
        }
      where
        all_weaker' : (A B : Answered V → Type 0) → ((e : Answered V) → A e → B e) → (xs : List (Answered V)) → AllByRecursion A xs → AllByRecursion B xs
        all_weaker' = All-weaker
