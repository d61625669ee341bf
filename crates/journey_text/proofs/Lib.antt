mod AnswerWordsLemmas
mod OneAnswerLemmas
mod OneRecordLemmas
mod OneScriptLemmas
mod ReadingLemmas
mod ScriptRowsLemmas
mod TextLemmas
mod WordLemmas
