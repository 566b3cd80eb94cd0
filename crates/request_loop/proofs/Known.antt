-- Bytes that a reader loses and a writer gets, piece by piece.
use Rattle.std.proofs.Common.{◌≡◌, ℕ, ◌+◌, List, [], ◌∷◌, ◌++◌, length, take, drop, get_or, Option, Some, None, refl, sym, ap, ◌∙◌, arith, append_assoc, append-nil, subst, ◌<◌, zero, suc, Result, Ok, Err, Bool, true, false}
use Rattle.std.specs.Prelude.{OnErr, OnOk, MatchOption}
use Rattle.std.proofs.lemmas.List.{get_or-drop}
use Rattle.std.specs.Io.KnownBytes.{Keeps, Consumes, Appends, prepend_known}
use Rattle.std.specs.Int.{w32, w64, to_be_bytes, from_be_bytes}
use Rattle.std.proofs.lemmas.Nat.{be_bytes_4, be_bytes_8}
use Rattle.request_loop.specs.declared.packet.Head.{Head}
use Rattle.request_loop.specs.declared.packet.Kind.{Kind}
use Rattle.request_loop.specs.declared.wire.Wire.{Wire}
use Rattle.request_loop.specs.Workers.{Packet}
use Rattle.request_loop.specs.Packets.{kind_byte, packet_bytes, packets_bytes, TellsRead, TellsWritten, WireTells}

pub appends_nothing : (a : Option (List ℕ)) → Appends a a []
appends_nothing None = tt
appends_nothing (Some xs) = sym (append-nil xs)

pub appends_more : (a b c : Option (List ℕ)) (x y : List ℕ) → Appends a b x → Appends b c y → Appends a c (x ++ y)
appends_more None b c x y p q = tt
appends_more (Some xs) None c x y p q = absurd p
appends_more (Some xs) (Some ys) None x y p q = absurd q
appends_more (Some xs) (Some ys) (Some zs) x y p q = q ∙ (ap (λ l. l ++ y) p ∙ append_assoc xs x y)

pub consumes_nothing : (a : Option (List ℕ)) → Consumes a a []
consumes_nothing None = tt
consumes_nothing (Some xs) = refl

pub consumes_more : (a b c : Option (List ℕ)) (x y : List ℕ) → Consumes a b x → Consumes b c y → Consumes a c (x ++ y)
consumes_more None b c x y p q = tt
consumes_more (Some xs) None c x y p q = absurd p
consumes_more (Some xs) (Some ys) None x y p q = absurd q
consumes_more (Some xs) (Some ys) (Some zs) x y p q = p ∙ (ap (λ l. x ++ l) q ∙ sym (append_assoc x y zs))

pub appends-kept : (a b c : Option (List ℕ)) (x : List ℕ) → Appends a b x → Keeps b c → Appends a c x
appends-kept None b c x p q = tt
appends-kept (Some xs) None c x p q = absurd p
appends-kept (Some xs) (Some ys) None x p q = absurd q
appends-kept (Some xs) (Some ys) (Some zs) x p q = q ∙ p

pub appends_of_keeps : (a b : Option (List ℕ)) → Keeps a b → Appends a b []
appends_of_keeps None b k = tt
appends_of_keeps (Some xs) None k = absurd k
appends_of_keeps (Some xs) (Some ys) k = k ∙ sym (append-nil xs)

pub consumes_of_keeps : (a b : Option (List ℕ)) → Keeps a b → Consumes a b []
consumes_of_keeps None b k = tt
consumes_of_keeps (Some xs) None k = absurd k
consumes_of_keeps (Some xs) (Some ys) k = sym k

-- what was taken moved from the reader to the room
pub moved_of : (a c : Option (List ℕ)) (old part new : List ℕ) → new ≡ old ++ part → Consumes a c part → Keeps (prepend_known old a) (prepend_known new c)
moved_of None c old part new is took = tt
moved_of (Some bytes) None old part new is took = absurd took
moved_of (Some bytes) (Some rest) old part new is took = ap (λ l. l ++ rest) is ∙ (append_assoc old part rest ∙ ap (λ l. old ++ l) (sym took))

pub moved_kept : (a c : Option (List ℕ)) (old : List ℕ) → Keeps a c → Keeps (prepend_known old a) (prepend_known old c)
moved_kept None c old k = tt
moved_kept (Some bytes) None old k = absurd k
moved_kept (Some bytes) (Some rest) old k = ap (λ l. old ++ l) k

pub keeps-trans : (a b c : Option (List ℕ)) → Keeps a b → Keeps b c → Keeps a c
keeps-trans None b c p q = tt
keeps-trans (Some xs) None c p q = absurd p
keeps-trans (Some xs) (Some ys) None p q = absurd q
keeps-trans (Some xs) (Some ys) (Some zs) p q = q ∙ p

pub keeps-refl : (a : Option (List ℕ)) → Keeps a a
keeps-refl None = tt
keeps-refl (Some xs) = refl

-- from an empty room
pub taken : (a b : Option (List ℕ)) (old new : List ℕ) → old ≡ [] → Keeps (prepend_known old a) (prepend_known new b) → Consumes a b new
taken None b old new none k = tt
taken (Some xs) None old new none k = absurd k
taken (Some xs) (Some ys) old new none k = sym (k ∙ ap (λ l. l ++ xs) none)

pub header_is : (header mark first second : List ℕ) (kind : Kind) (connection len : ℕ) → ((i : ℕ) → get_or first i 0 < 256) → ((i : ℕ) → get_or second i 0 < 256) → length first ≡ 8 → length second ≡ 4 → mark ≡ kind_byte kind ∷ [] → header ≡ mark ++ (first ++ second) → connection ≡ from_be_bytes w64 first → len ≡ from_be_bytes w32 second → header ≡ kind_byte kind ∷ (to_be_bytes w64 connection ++ to_be_bytes w32 len)
header_is header mark first second kind connection len f s lf ls m is c l =
    is
    ∙ (ap (λ x. x ++ (first ++ second)) m
    ∙ ap (λ x. kind_byte kind ∷ x) (ap (λ x. x ++ second) (sym (be_bytes_8 first connection lf f c)) ∙ ap (λ x. to_be_bytes w64 connection ++ x) (sym (be_bytes_4 second len ls s l))))

pub packet_taken : (a b c : Option (List ℕ)) (header room : List ℕ) (head : Head) (len : ℕ) → Consumes a b header → Consumes b c room → header ≡ kind_byte head.kind ∷ (to_be_bytes w64 head.connection ++ to_be_bytes w32 len) → length room ≡ len → Consumes a c (packet_bytes (record { head = head; bytes = room }))
packet_taken a b c header room head len first second is counted =
    let whole : header ++ room ≡ packet_bytes (record { head = head; bytes = room }) =
    ap (λ l. l ++ room) is ∙ ap (λ l. kind_byte head.kind ∷ l) (append_assoc (to_be_bytes w64 head.connection) (to_be_bytes w32 len) room ∙ ap (λ n. to_be_bytes w64 head.connection ++ (to_be_bytes w32 n ++ room)) (sym counted)) in
    let P : List ℕ → Type 0 = Consumes a c in
    subst P whole (consumes_more a b c header room first second)

pub one_byte : (l : List ℕ) → length l ≡ 1 → l ≡ get_or l 0 0 ∷ []
one_byte [] is = absurd (omega arith)
one_byte (x ∷ []) is = refl
one_byte (x ∷ y ∷ l) is = absurd (omega arith)

pub packets-append : (fs : List Packet) (f : Packet) → packets_bytes (fs ++ f ∷ []) ≡ packets_bytes fs ++ packet_bytes f
packets-append [] f = append-nil (packet_bytes f)
packets-append (e ∷ fs) f = ap (λ l. packet_bytes e ++ l) (packets-append fs f) ∙ sym (append_assoc (packet_bytes e) (packets_bytes fs) (packet_bytes f))

pub on_err : {T E : Type 0} (r : Result T E) (P : Type 0) → P → OnErr r P
on_err (Ok x) P p = tt
on_err (Err e) P p = p

pub err_then : {T E : Type 0} (r : Result T E) (P Q : Type 0) → OnErr r P → (P → Q) → OnErr r Q
err_then (Ok x) P Q p f = tt
err_then (Err e) P Q p f = f p

pub ok_then : {T E : Type 0} (r : Result T E) (P Q : Type 0) → OnOk r P → (P → Q) → OnOk r Q
ok_then (Ok x) P Q p f = f p
ok_then (Err e) P Q p f = tt

pub appends_then : (a b c : Option (List ℕ)) (x : List ℕ) → Appends a b x → (part : List ℕ) × Appends b c part → (part : List ℕ) × Appends a c part
appends_then a b c x p q = (x ++ q.0, appends_more a b c x q.0 p q.1)

pub bytes_take : (n : ℕ) (l : List ℕ) → ((i : ℕ) → get_or l i 0 < 256) → (i : ℕ) → get_or (take n l) i 0 < 256
bytes_take zero l fits i = omega arith
bytes_take (suc n) [] fits i = omega arith
bytes_take (suc n) (x ∷ l) fits zero = fits 0
bytes_take (suc n) (x ∷ l) fits (suc i) = bytes_take n l (λ k. fits (suc k)) i

pub bytes_drop : (n : ℕ) (l : List ℕ) → ((i : ℕ) → get_or l i 0 < 256) → (i : ℕ) → get_or (drop n l) i 0 < 256
bytes_drop n l fits i = omega (arith, get_or-drop n l i 0, fits (n + i))

-- ---- what a wire tells

pub read_kept : (began a b : Option (List ℕ)) (came : List Packet) → TellsRead began a false came → Keeps a b → TellsRead began b false came
read_kept began a b came t k =
    let P : List ℕ → Type 0 = λ l. Consumes began b l in
    let all : Consumes began b ((packets_bytes came ++ t.0) ++ []) = consumes_more began a b (packets_bytes came ++ t.0) [] t.2 (consumes_of_keeps a b k) in
    (t.0, t.1, subst P (append-nil (packets_bytes came ++ t.0)) all)

pub read_more : (began a b : Option (List ℕ)) (came : List Packet) (f : Packet) → TellsRead began a false came → Consumes a b (packet_bytes f) → TellsRead began b false (came ++ f ∷ [])
read_more began a b came f t k =
    let P : List ℕ → Type 0 = λ l. Consumes began b l in
    let all : Consumes began b ((packets_bytes came ++ t.0) ++ packet_bytes f) = consumes_more began a b (packets_bytes came ++ t.0) (packet_bytes f) t.2 k in
    let same : (packets_bytes came ++ t.0) ++ packet_bytes f ≡ packets_bytes (came ++ f ∷ []) ++ [] =
    ap (λ l. (packets_bytes came ++ l) ++ packet_bytes f) (t.1 refl) ∙ (ap (λ l. l ++ packet_bytes f) (append-nil (packets_bytes came)) ∙ (sym (packets-append came f) ∙ sym (append-nil (packets_bytes (came ++ f ∷ []))))) in
    ([], λ _. refl, subst P same all)

pub read_failed : (began a b : Option (List ℕ)) (came : List Packet) → TellsRead began a false came → (part : List ℕ) × Consumes a b part → TellsRead began b true came
read_failed began a b came t k =
    let P : List ℕ → Type 0 = λ l. Consumes began b l in
    let all : Consumes began b ((packets_bytes came ++ t.0) ++ k.0) = consumes_more began a b (packets_bytes came ++ t.0) k.0 t.2 k.1 in
    let never : true ≡ false → t.0 ++ k.0 ≡ [] = λ e. (let none : ⊥ = cc in absurd none) in
    (t.0 ++ k.0, never, subst P (append_assoc (packets_bytes came) t.0 k.0) all)

pub read_marked : (began a : Option (List ℕ)) (came : List Packet) → TellsRead began a false came → TellsRead began a true came
read_marked began a came t =
    let never : true ≡ false → t.0 ≡ [] = λ e. (let none : ⊥ = cc in absurd none) in
    (t.0, never, t.2)

pub written_more : (began a b : Option (List ℕ)) (sent : List Packet) (f : Packet) → TellsWritten began a false sent → Appends a b (packet_bytes f) → TellsWritten began b false (sent ++ f ∷ [])
written_more began a b sent f t k =
    let P : List ℕ → Type 0 = λ l. Appends began b l in
    let all : Appends began b ((packets_bytes sent ++ t.0) ++ packet_bytes f) = appends_more began a b (packets_bytes sent ++ t.0) (packet_bytes f) t.2 k in
    let same : (packets_bytes sent ++ t.0) ++ packet_bytes f ≡ packets_bytes (sent ++ f ∷ []) ++ [] =
    ap (λ l. (packets_bytes sent ++ l) ++ packet_bytes f) (t.1 refl) ∙ (ap (λ l. l ++ packet_bytes f) (append-nil (packets_bytes sent)) ∙ (sym (packets-append sent f) ∙ sym (append-nil (packets_bytes (sent ++ f ∷ []))))) in
    ([], λ _. refl, subst P same all)

pub written_failed : (began a b : Option (List ℕ)) (sent : List Packet) → TellsWritten began a false sent → (part : List ℕ) × Appends a b part → TellsWritten began b true sent
written_failed began a b sent t k =
    let P : List ℕ → Type 0 = λ l. Appends began b l in
    let all : Appends began b ((packets_bytes sent ++ t.0) ++ k.0) = appends_more began a b (packets_bytes sent ++ t.0) k.0 t.2 k.1 in
    let never : true ≡ false → t.0 ++ k.0 ≡ [] = λ e. (let none : ⊥ = cc in absurd none) in
    (t.0 ++ k.0, never, subst P (append_assoc (packets_bytes sent) t.0 k.0) all)

pub written_marked : (began a : Option (List ℕ)) (sent : List Packet) → TellsWritten began a false sent → TellsWritten began a true sent
written_marked began a sent t =
    let never : true ≡ false → t.0 ≡ [] = λ e. (let none : ⊥ = cc in absurd none) in
    (t.0, never, t.2)

-- what was written stays so where it is handed on
pub written_kept : (began a b : Option (List ℕ)) (broken : Bool) (sent : List Packet) → TellsWritten began a broken sent → Keeps a b → TellsWritten began b broken sent
written_kept began a b broken sent t k = (t.0, t.1, appends-kept began a b (packets_bytes sent ++ t.0) t.2 k)

pub nothing_read : (a : Option (List ℕ)) → TellsRead a a false []
nothing_read a = ([], λ _. refl, consumes_nothing a)

pub nothing_written : (a : Option (List ℕ)) → TellsWritten a a false []
nothing_written a = ([], λ _. refl, appends_nothing a)

pub bytes_all : (l : List ℕ) → ((i : ℕ) → i < length l → get_or l i 0 < 256) → (i : ℕ) → get_or l i 0 < 256
bytes_all [] fits i = omega arith
bytes_all (x ∷ l) fits zero = fits 0 (omega arith)
bytes_all (x ∷ l) fits (suc i) = bytes_all l (λ k within. fits (suc k) (omega arith)) i

abbrev pub Tells : Option (List ℕ) → Option (List ℕ) → Option (List ℕ) → Option (List ℕ) → Bool → List Packet → List Packet → Type 0
Tells began a wrote w broken came sent = TellsRead began a broken came × TellsWritten wrote w broken sent

abbrev pub Came : {X : Type 0} → (X → Option (List ℕ)) → (X → Option (List ℕ)) → Option (List ℕ) → Option (List ℕ) → Option (List ℕ) → Option (List ℕ) → List ℕ → Option Head → Bool → Type 0
Came {X} began wrote a b w v room r broken =
    MatchOption r ((start : X) (came sent : List Packet) → Tells (began start) a (wrote start) w broken came sent → Tells (began start) b (wrote start) v broken came sent)
    (λ h. (start : X) (came sent : List Packet) → Tells (began start) a (wrote start) w broken came sent → Tells (began start) b (wrote start) v broken (came ++ record { head = h; bytes = room } ∷ []) sent)

pub came_told : {X : Type 0} (began wrote : X → Option (List ℕ)) (a b w v : Option (List ℕ)) (room : List ℕ) (r : Option Head) (broken : Bool) → broken ≡ false → Keeps w v → MatchOption r (Keeps a b) (λ h. Consumes a b (packet_bytes (record { head = h; bytes = room }))) → Came began wrote a b w v room r broken
came_told began wrote a b w v room None broken is same k =
    let P : Bool → Type 0 = λ t. Came began wrote a b w v room None t in
    subst P (sym is) (λ start came sent t. (read_kept (began start) a b came t.0 k, written_kept (wrote start) w v false sent t.1 same))
came_told began wrote a b w v room (Some h) broken is same k =
    let P : Bool → Type 0 = λ t. Came began wrote a b w v room (Some h) t in
    subst P (sym is) (λ start came sent t. (read_more (began start) a b came (record { head = h; bytes = room }) t.0 k, written_kept (wrote start) w v false sent t.1 same))

abbrev pub Sent : {X : Type 0} → (X → Option (List ℕ)) → (X → Option (List ℕ)) → Option (List ℕ) → Option (List ℕ) → Option (List ℕ) → Packet → Bool → Type 0
Sent {X} began wrote a w v f broken = (start : X) (came sent : List Packet) → Tells (began start) a (wrote start) w broken came sent → Tells (began start) a (wrote start) v broken came (sent ++ f ∷ [])

pub sent_told : {X : Type 0} (began wrote : X → Option (List ℕ)) (a w v : Option (List ℕ)) (f : Packet) (broken : Bool) → broken ≡ false → Appends w v (packet_bytes f) → Sent began wrote a w v f broken
sent_told began wrote a w v f broken is k =
    let P : Bool → Type 0 = λ t. Sent began wrote a w v f t in
    subst P (sym is) (λ start came sent t. (t.0, written_more (wrote start) w v sent f t.1 k))

-- a reader and a writer that did not fail tell whole packets
pub wire_told : {R W : Type 0} (remaining : R → Option (List ℕ)) (contents : W → Option (List ℕ)) (v w : Wire R W) (came sent : List Packet) → w.broken ≡ false → WireTells remaining contents v w came sent → Consumes (remaining v.input) (remaining w.input) (packets_bytes came) × Appends (contents v.output) (contents w.output) (packets_bytes sent)
wire_told remaining contents v w came sent off told =
    let C : List ℕ → Type 0 = λ l. Consumes (remaining v.input) (remaining w.input) l in
    let A : List ℕ → Type 0 = λ l. Appends (contents v.output) (contents w.output) l in (
      subst C (ap (λ (l : List ℕ). packets_bytes came ++ l) (told.0.1 off) ∙ append-nil (packets_bytes came)) told.0.2,
      subst A (ap (λ (l : List ℕ). packets_bytes sent ++ l) (told.1.1 off) ∙ append-nil (packets_bytes sent)) told.1.2,
    )

-- a packet is written part by part
pub packet_written : (a b c d e : Option (List ℕ)) (head : Head) (bytes : List ℕ) (kind : ℕ) (connection len : List ℕ) → Appends a b (kind ∷ []) → Appends b c connection → Appends c d len → Appends d e bytes → kind ≡ kind_byte head.kind → connection ≡ to_be_bytes w64 head.connection → len ≡ to_be_bytes w32 (length bytes) → Appends a e (packet_bytes (record { head = head; bytes = bytes }))
packet_written a b c d e head bytes kind connection len p q r s is is_too is_long =
    let P : List ℕ → Type 0 = Appends a e in
    let same : kind ∷ (connection ++ (len ++ bytes)) ≡ packet_bytes (record { head = head; bytes = bytes }) =
    ap (λ n. n ∷ (connection ++ (len ++ bytes))) is ∙ (ap (λ l. kind_byte head.kind ∷ (l ++ (len ++ bytes))) is_too ∙ ap (λ l. kind_byte head.kind ∷ (to_be_bytes w64 head.connection ++ (l ++ bytes))) is_long) in
    subst P same (appends_more a b e (kind ∷ []) (connection ++ (len ++ bytes)) p (appends_more b c e connection (len ++ bytes) q (appends_more c d e len bytes r s)))
