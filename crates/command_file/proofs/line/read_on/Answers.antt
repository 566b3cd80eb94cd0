use Rattle.std.proofs.Common.{◌≡◌, ◌≢◌, ◌<◌, ◌+◌, ◌-◌, true, false, length, take, min, subst, sym, ap, ◌∙◌, arith, eqb-true, get_or}
use Rattle.std.specs.Io.BufRead.{FillKeeps}
use Rattle.std.proofs.BufReadLemmas.{Consumes_shown}
use Rattle.std.proofs.lemmas.List.Elements.{All-append}
use Rattle.command_file.proofs.Looks.{look, at_end_from_shown, within_shown}
use Rattle.command_file.specs.Reading.{HasNoFeed}
use Rattle.command_file.proofs.line.read_on.Goals as goal

pub returns-clause-read : goal.returns-clause-read
returns-clause-read g c =
    let a = g.R.Read.remaining c.args.file.now in
    let old = c.args.line.now.items in
    let shown = c.in-Ok.available.now in
    let part = c.line_part-count in
    let count = part.result.0 in
    let feed = part.result.1 in
    let amount = count + c.from.result in
    let rested = c.fill_buf.follows.lender-at-none in
    let filled = subst (FillKeeps a (g.R.Read.remaining rested) (g.R.BufRead.consumable_len rested)) c.in-Ok.is c.fill_buf.follows.holds-at-none in
    let room = 1025 - c.len.result in
    let len : c.len.result ≡ length old = c.len.ensures ∙ c.args.line.now.ok.0 in
    let at_feed : feed ≡ true → (amount ≡ count + 1) × (count < length shown) × (count < room) × (get_or shown count 0 ≡ 10) = λ is.
    let one : c.from.result ≡ 1 = rw is at c.from.ensures in
    let fact = part.ensures.feed is in
    let sum : amount ≡ count + 1 = omega (arith, one) in (sum, fact.0, fact.1, fact.2) in
    let no_feed : feed ≡ false → (amount ≡ count) × (count ≡ min (length shown) room) = λ isnt.
    let none : c.from.result ≡ 0 = rw isnt at c.from.ensures in
    let sum : amount ≡ count = omega (arith, none) in (sum, part.ensures.none isnt) in
    let within = within_shown count amount (length shown) room feed (λ is. let fact = at_feed is in (fact.0, fact.1, fact.2)) no_feed in
    let moved = Consumes_shown a _ _ _ shown amount within c.in-Ok.ensures.front c.in-Ok.ensures.end filled.0 filled.1 c.consume.ensures.bytes in
    let put = c.in_ok-extend_from_slice.ensures.items in
    let free : HasNoFeed c.extend_from_slice.new.self.items = subst HasNoFeed (sym put) (All-append (λ b. b ≢ 10) old (take count shown) c.requires.no_feed part.ensures.before) in
    look a _ old shown c.extend_from_slice.new.self.items count amount room feed c.is_empty-is_at_end.result
    moved.0 (λ is. eqb-true _ _ (sym c.is_empty-is_at_end.ensures ∙ is)) (λ none. (at_end_from_shown a shown c.in-Ok.ensures.end none, moved.1 none)) put free at_feed no_feed
    (omega (arith, len)) (ap (λ n. 1025 - n) len)
    c.line_read.result (rw c.deref.ensures.value at c.line_read.ensures)
