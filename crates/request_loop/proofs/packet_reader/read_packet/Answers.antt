use Rattle.std.proofs.Common.{◌≡◌, ◌<◌, ◌∷◌, [], ◌++◌, ℕ, List, length, take, drop, get_or, sym, ap, ◌∙◌, arith, rules, take-append-drop, subst}
use Rattle.std.specs.Int.{w32, w64, to_be_bytes}
use Rattle.std.specs.Io.KnownBytes.{Consumes}
use Rattle.request_loop.specs.Packets.{kind_byte}
use Rattle.request_loop.proofs.Known.{on_err, consumes_more, taken, header_is, packet_taken, one_byte, bytes_take, bytes_drop, bytes_all}
use Rattle.request_loop.proofs.packet_reader.read_packet.Goals as goal

pub returns-in_err-move_all-2-clause-part : goal.returns-in_err-move_all-2-clause-part
returns-in_err-move_all-2-clause-part g c =
    let a = g.R.Read.remaining c.args.input.now in
    let b = g.R.Read.remaining c.move_all.new.input in
    let d = g.R.Read.remaining c.move_all-2.new.input in
    let header = c.move_all.new.room.items in
    let room = c.move_all-2.new.room.items in
    let t : (part : List ℕ) × Consumes a d part = (header ++ room, consumes_more a b d header room (taken a b _ header c.clear.ensures.items c.in_ok-move_all.ensures.moved) (taken b d _ room c.clear-2.ensures.items c.in_err-move_all-2.ensures.moved)) in
    on_err _ _ t

pub returns-else-branch-clause-part : goal.returns-else-branch-clause-part
returns-else-branch-clause-part g c =
    let a = g.R.Read.remaining c.args.input.now in
    let b = g.R.Read.remaining c.move_all.new.input in
    let d = g.R.Read.remaining c.move_all-2.new.input in
    let header = c.move_all.new.room.items in
    let room = c.move_all-2.new.room.items in
    (header ++ room, consumes_more a b d header room (taken a b _ header c.clear.ensures.items c.in_ok-move_all.ensures.moved) (taken b d _ room c.clear-2.ensures.items c.in_ok-move_all-2.ensures.moved))

pub returns-then-branch-clause-read : goal.returns-then-branch-clause-read
returns-then-branch-clause-read g c =
    let a = g.R.Read.remaining c.args.input.now in
    let b = g.R.Read.remaining c.move_all.new.input in
    let d = g.R.Read.remaining c.move_all-2.new.input in
    let header = c.move_all.new.room.items in
    let room = c.move_all-2.new.room.items in
    let mark = c.split_at.result.0.now in
    let numbers = c.split_at.result.1.now in
    let first = c.split_at-2.result.0.now in
    let second = c.split_at-2.result.1.now in
    let value : c.as_slice.result.now ≡ header = c.as_slice.ensures.value in
    let all : length header ≡ 13 = search rules in
    let front : mark ≡ take 1 header = c.split_at.ensures.front ∙ ap (take 1) value in
    let back : numbers ≡ drop 1 header = c.split_at.ensures.back ∙ ap (drop 1) value in
    let front_too : first ≡ take 8 numbers = c.split_at-2.ensures.front in
    let back_too : second ≡ drop 8 numbers = c.split_at-2.ensures.back in
    let fits : (i : ℕ) → get_or header i 0 < 256 = bytes_all header (λ i within. omega (arith, c.type_inv.header i)) in
    let P : List ℕ → Type 0 = λ l. (i : ℕ) → get_or l i 0 < 256 in
    let fits_behind : (i : ℕ) → get_or numbers i 0 < 256 = subst P (sym back) (bytes_drop 1 header fits) in
    let one : length mark ≡ 1 = search rules in
    let eight : length first ≡ 8 = search rules in
    let four : length second ≡ 4 = search rules in
    let counted : length room ≡ c.number_of-len.result = search rules in
    let marked : mark ≡ kind_byte c.in-Some.kind ∷ [] = one_byte mark one ∙ ap (λ n. n ∷ []) c.in-Some.ensures in
    let split : header ≡ mark ++ (first ++ second) =
    sym (take-append-drop 1 header)
    ∙ (ap (λ l. l ++ drop 1 header) (sym front)
    ∙ ap (λ l. mark ++ l) (sym back ∙ (sym (take-append-drop 8 numbers) ∙ (ap (λ l. l ++ drop 8 numbers) (sym front_too) ∙ ap (λ l. first ++ l) (sym back_too))))) in
    let is : header ≡ kind_byte c.in-Some.kind ∷ (to_be_bytes w64 c.connection_of-connection.result ++ to_be_bytes w32 c.number_of-len.result) =
    header_is header mark first second c.in-Some.kind c.connection_of-connection.result c.number_of-len.result (subst P (sym front_too) (bytes_take 8 numbers fits_behind)) (subst P (sym back_too) (bytes_drop 8 numbers fits_behind)) eight four marked split c.connection_of-connection.ensures c.number_of-len.ensures in
    packet_taken a b d header room (record { kind = c.in-Some.kind; connection = c.connection_of-connection.result }) c.number_of-len.result (taken a b _ header c.clear.ensures.items c.in_ok-move_all.ensures.moved) (taken b d _ room c.clear-2.ensures.items c.in_ok-move_all-2.ensures.moved) is counted
