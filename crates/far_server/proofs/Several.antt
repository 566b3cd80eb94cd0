-- Commands on several keys: one key more.
use Rattle.std.proofs.Common.{◌≡◌, ◌≤◌, ◌+◌, ◌-◌, ℕ, Bool, MatchBool, List, [], ◌∷◌, ◌++◌, length, refl, sym, ap, subst, ◌∙◌, arith, length-append}
use Rattle.std.specs.List.{flat_map}
use Rattle.table_core.specs.declared.limits.Limits.{Limits}
use Rattle.resp.specs.Replies.{Token, token}
use Rattle.key_commands.specs.declared.key_command.KeyCommand.{KeyCommand}
use Rattle.far_server.specs.Sessions.{Session}
use Rattle.far_server.specs.Bounds.{longest}
use Rattle.stored_keys.specs.declared.Keyspace.{Keyspace}
use Rattle.far_server.specs.Keyed.{IsKeyed}
use Rattle.far_server.specs.Many.{one, none, ok, counted, AreCounted, AreListed, IsSet, AreSet}

module _ (l : Limits) (keyspace : Keyspace) (now most : ℕ) where
  pub counted_more : (command : KeyCommand) (ks : List (List ℕ)) (k : List ℕ) (from count : ℕ) (a b c : Session) (r : Token) (is_one : Bool)
      → AreCounted l keyspace now most command ks from count a b → IsKeyed l keyspace k command now most b c r → MatchBool is_one (token r ≡ one) (token r ≡ none)
      → AreCounted l keyspace now most command (ks ++ k ∷ []) from (counted is_one count) a c
  counted_more command [] k from count a b c r is_one before keyed said =
      let at : IsKeyed l keyspace k command now most a c r = subst (λ (s : Session). IsKeyed l keyspace k command now most s c r) (sym before.0) keyed in
      (c, r, is_one, at, said, (refl, ap (λ (n : ℕ). counted is_one n) before.1))
  counted_more command (j ∷ ks) k from count a b c r is_one before keyed said =
      (before.0, before.1, before.2, before.3, before.4, counted_more command ks k (counted before.2 from) count before.0 b c r is_one before.5 keyed said)

  pub listed_more : (command : KeyCommand) (limit : ℕ) (ks : List (List ℕ)) (k : List ℕ) (rs : List Token) (a b c : Session) (r : Token)
      → AreListed l keyspace now most command limit ks rs a b → length (flat_map token rs) + longest most ≤ limit → IsKeyed l keyspace k command now most b c r
      → AreListed l keyspace now most command limit (ks ++ k ∷ []) (rs ++ r ∷ []) a c
  listed_more command limit [] k rs a b c r before fits keyed =
      let at : IsKeyed l keyspace k command now most a c r = subst (λ (s : Session). IsKeyed l keyspace k command now most s c r) (sym before.0) keyed in
      (omega (arith, fits), (c, r, [], at, (refl, refl), ap (λ (ts : List Token). ts ++ r ∷ []) before.1))
  listed_more command limit (j ∷ ks) k rs a b c r before fits keyed =
      let p = before.1 in
      let len : length (flat_map token rs) ≡ length (token p.1) + length (flat_map token p.2) = ap (λ (ts : List Token). length (flat_map token ts)) p.5 ∙ length-append (token p.1) (flat_map token p.2) in (
        before.0,
        (
          p.0,
          p.1,
          p.2 ++ r ∷ [],
          p.3,
          listed_more command (limit - length (token p.1)) ks k p.2 p.0 b c r p.4 (omega (arith, len, fits)) keyed,
          ap (λ (ts : List Token). ts ++ r ∷ []) p.5,
        ),
      )

  pub set_more : (ks : List (List ℕ)) (k v : List ℕ) (a b c : Session) (r : Token)
      → AreSet l keyspace now most ks a b → IsSet l keyspace now most k v b c r → token r ≡ ok → AreSet l keyspace now most (ks ++ k ∷ v ∷ []) a c
  set_more [] k v a b c r before set is_ok =
      let at : IsSet l keyspace now most k v a c r = subst (λ (s : Session). IsSet l keyspace now most k v s c r) (sym before) set in
      (c, r, at, is_ok, refl)
  set_more (j ∷ []) k v a b c r before set is_ok = absurd before
  set_more (j ∷ w ∷ ks) k v a b c r before set is_ok = (before.0, before.1, before.2, before.3, set_more ks k v before.0 b c r before.4 set is_ok)
