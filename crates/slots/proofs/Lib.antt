mod Queue
