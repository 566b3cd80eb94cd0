use Rattle.std.proofs.Common.{◌≡◌, ◌<◌, ◌+◌, length, take, arith, subst}
use Rattle.std.proofs.lemmas.List.{take_all}
use Rattle.resp.specs.Replies.{IsText}
use Rattle.resp.proofs.Texts.{front_is_text, text_short, text_cr, text_bad, text_feed, text_whole}
use Rattle.resp.proofs.text.text_at.Goals as goal

pub returns-then-at-bytes : goal.returns-then-at-bytes
returns-then-at-bytes c =
    let bytes = c.args.bytes.now in
    let at = c.text_len-at.result in
    let most = c.args.most in
    let text = front_is_text most at bytes c.text_len-at.ensures.within c.text_len-at.ensures.few c.text_len-at.ensures.plain in
    let all : take at bytes ≡ bytes = take_all at bytes (omega (arith, c.if-at-bytes.true)) in
    text_short most bytes (subst (IsText most) all text)

pub returns-then-bytes-at-ne13 : goal.returns-then-bytes-at-ne13
returns-then-bytes-at-ne13 c =
    let bytes = c.args.bytes.now in
    let at = c.text_len-at.result in
    let most = c.args.most in
    let text = front_is_text most at bytes c.text_len-at.ensures.within c.text_len-at.ensures.few c.text_len-at.ensures.plain in
    let within : at < length bytes = omega (arith, c.text_len-at.ensures.within, c.if-at-bytes.false) in
    text_bad most at bytes within text c.if-bytes-at-ne13.true (c.text_len-at.ensures.end within)

pub returns-then-at-bytes-2 : goal.returns-then-at-bytes-2
returns-then-at-bytes-2 c =
    let bytes = c.args.bytes.now in
    let at = c.text_len-at.result in
    let most = c.args.most in
    let text = front_is_text most at bytes c.text_len-at.ensures.within c.text_len-at.ensures.few c.text_len-at.ensures.plain in
    text_cr most at bytes c.if-at-bytes-2.true text c.if-bytes-at-ne13.false

pub returns-then-bytes-at-ne10 : goal.returns-then-bytes-at-ne10
returns-then-bytes-at-ne10 c =
    let bytes = c.args.bytes.now in
    let at = c.text_len-at.result in
    let most = c.args.most in
    let text = front_is_text most at bytes c.text_len-at.ensures.within c.text_len-at.ensures.few c.text_len-at.ensures.plain in
    let within : at + 1 < length bytes = omega (arith, c.text_len-at.ensures.within, c.if-at-bytes.false, c.if-at-bytes-2.false) in
    text_feed most at bytes within text c.if-bytes-at-ne13.false c.if-bytes-at-ne10.true

pub returns : goal.returns
returns c =
    let bytes = c.args.bytes.now in
    let at = c.text_len-at.result in
    let most = c.args.most in
    let text = front_is_text most at bytes c.text_len-at.ensures.within c.text_len-at.ensures.few c.text_len-at.ensures.plain in
    let within : at + 1 < length bytes = omega (arith, c.text_len-at.ensures.within, c.if-at-bytes.false, c.if-at-bytes-2.false) in
    (text_whole most at bytes within text c.if-bytes-at-ne13.false c.if-bytes-at-ne10.false, omega arith)
