-- Definitions are shut until a proof opens them: the names that judging given bytes rests on. `order_opened` opens them all.
use Rattle.decimals.specs.Bytes as bytes
use Rattle.rules.specs.Rules as rules
use Rattle.records.specs.Got as got
use Rattle.records.specs.Bytes as RecordsBytes
use Rattle.records.specs.Decode as decode
use Rattle.records.specs.Images as images
use Rattle.records.specs.Encode as encode
use Rattle.order.specs.Order as order
use Rattle.order.specs.Accepted as accepted

unfoldable pub read_opened : Unit {0}
unfolding bytes.run rules.letter rules.id_step rules.is_id rules.utf8_first rules.utf8_low rules.utf8_high rules.utf8_rest rules.utf8_step rules.is_utf8 got.after got.test got.pick RecordsBytes.bytes_at RecordsBytes.byte_at RecordsBytes.number_at RecordsBytes.span_at RecordsBytes.to_be decode.many decode.ruled_at decode.flag_at decode.id_at images.max_image images.one_at images.whole_of images.argument_number_at images.argument_value_at images.argument_at images.arguments_at images.arguments_of
read_opened = tt

unfoldable pub order_opened : Unit {0}
unfolding read_opened encode.enc_str encode.enc_flag encode.enc_all encode.enc_counted encode.enc_whole encode.enc_argument encode.enc_named_argument encode.enc_arguments_image order.before accepted.leads accepted.ascending accepted.is_least accepted.all_least accepted.in_order accepted.judged_if accepted.judge_read accepted.judge
order_opened = tt
