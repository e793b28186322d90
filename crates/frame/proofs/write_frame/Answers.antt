-- `frame::write_frame` meets its contract. Assumes nothing.
use Rattle.frame.proofs.WriteLaws.{write_answer-written, write_frame_written, frame_octets-put}
use Rattle.frame.proofs.write_frame.Goals as goal

pub returns : goal.returns
returns c =
    let data-put = c in
    let header-put = data-put in
    let long = header-put in
    let six = long in
    let fits = six in
    let args = fits.args in
    write_frame_written
    args.buffer.now
    args.source.now
    args.event
    args.code
    _
    (write_answer-written _ _ _ fits.if-code-gt-LARGEST_CODE.false six.if-source-ne-SOURCE_LENGTH.false long.if-buffer-lt-WRITTEN_LENGTH.false)
    (frame_octets-put
    args.buffer.now
    args.source.now
    _
    _
    args.event
    args.code
    six.if-source-ne-SOURCE_LENGTH.false
    long.if-buffer-lt-WRITTEN_LENGTH.false
    header-put.put_header.ensures
    data-put.put_data.ensures)
