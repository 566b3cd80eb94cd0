-- A row of zeros stands at a log to which nothing has happened.
use Rattle.std.proofs.Common.{◌≡◌, ℕ, ◌+◌, ◌==◌, ltb, Bool, true, false, if◌then◌else◌, List, [], refl, ap, ◌∙◌, sym}
use Rattle.std.proofs.lemmas.List.{get_or-replicate, length-replicate}
use lib.ListN.{replicate}
use Rattle.table_core.specs.declared.limits.Limits.{Limits}
use Rattle.version_words.specs.Rows.{value_of, fresh, IsKept}

module _ (K V : Type 0) (ek : K → List ℕ) (ev : V → List ℕ) (l : Limits) where
  no_value : (k : ℕ) → value_of {K = K} {V = V} ek ev l [] k ≡ 0
  no_value k = by (ltb k l.buckets) (k == l.buckets)
    where
      by : (p q : Bool) → ◌≡◌ {A = ℕ} (if p then 0 else (if q then 0 else 0)) 0
      by true q = refl
      by false true = refl
      by false false = refl

  pub fresh_kept : IsKept {K = K} {V = V} ek ev (replicate (l.buckets + 2) (0, true)) (fresh l)
  fresh_kept = record {
    limits = l;
    log_is = record { is = refl; lawful = tt };
    row = record {
      count = length-replicate (l.buckets + 2) (0, true);
      words = λ k lt. get_or-replicate (l.buckets + 2) k (0, true) (0, false) lt ∙ ap (λ (x : ℕ). (x, true)) (sym (no_value k));
    };
  }
